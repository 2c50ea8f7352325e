-- The bytes of one node: its marks, and a tour. Arrays of an edge's byte have 190 places, zero past the edges. Definitions first, then
-- their laws.
--   byte_of, marks_in, bytes_of   a mark's byte; the marks in a list of bytes; the bytes of a node's marks
--   bytes_of_tour                the bytes of a tour
--   with_bytes                   a graph with other marks
use Rattle.std.specs.Prelude.{◌≡◌, refl, Bool, false, List, ℕ, zero, suc, ◌≤◌, ◌<◌, length, get_or}
use Rattle.std.proofs.Common.{sym, ap, ◌∙◌, arith}
use Rattle.std.proofs.Math.Decide.{dec_le}
use Rattle.std.proofs.Math.ListN.{get_or-eq_default}
use Rattle.lists.specs.Bools.{bit}
use Rattle.lists.specs.Fill.{fill, fill-size, fill-at, fill_is}
use Rattle.graph.specs.declared.Graph.{Graph}
use Rattle.graph.specs.Limits.{max_edges}
use Rattle.graph.specs.Network.{Mark, free, required, excluded, mark_of}
use Rattle.graph.specs.Valid.{Valid}
use Rattle.machine.specs.Machine.{Marks}

-- "0 free, 1 required or 2 struck"
abbrev pub byte_of : Mark → ℕ
byte_of free = 0
byte_of required = 1
byte_of excluded = 2

-- the marks of m edges in a list of bytes
unfoldable pub marks_in : ℕ → List ℕ → Marks
marks_in m x = fill m (λ j. mark_of (get_or x j 0))

-- a mark for each edge, in 190 bytes; zero past the marks
unfoldable pub bytes_of : Marks → List ℕ
unfolding fill
bytes_of x = fill max_edges (λ j. byte_of (get_or x j free))

-- a tour: "1 in, 0 out"
unfoldable pub bytes_of_tour : List Bool → List ℕ
unfolding fill
bytes_of_tour r = fill max_edges (λ i. bit (get_or r i false))

-- a graph with other marks
abbrev pub with_bytes : Graph → List ℕ → Graph
with_bytes g x = record { n = g.n; m = g.m; a = g.a; b = g.b; cost = g.cost; mark = x }

-- ---- a mark and its byte

pub mark_byte_lem : (x : Mark) → mark_of (byte_of x) ≡ x
unfolding mark_of
mark_byte_lem free = refl
mark_byte_lem required = refl
mark_byte_lem excluded = refl

pub byte_mark : (k : ℕ) → k ≤ 2 → byte_of (mark_of k) ≡ k
unfolding mark_of
byte_mark zero h = refl
byte_mark (suc zero) h = refl
byte_mark (suc (suc zero)) h = refl
byte_mark (suc (suc (suc k))) h = absurd (omega arith)

pub byte_small : (x : Mark) → byte_of x ≤ 2
byte_small free = omega arith
byte_small required = omega arith
byte_small excluded = omega arith

-- ---- the bytes of a node

pub bytes-size : (x : Marks) → length (bytes_of x) ≡ max_edges
unfolding bytes_of
bytes-size x = fill-size max_edges (λ j. byte_of (get_or x j free))

pub bytes-at : (x : Marks) (j : ℕ) → j < max_edges → get_or (bytes_of x) j 0 ≡ byte_of (get_or x j free)
unfolding bytes_of
bytes-at x j h = fill-at max_edges (λ i. byte_of (get_or x i free)) j 0 h

pub bytes_small : (x : Marks) (j : ℕ) → j < max_edges → get_or (bytes_of x) j 0 ≤ 2
bytes_small x j h = omega (arith, bytes-at x j h, byte_small (get_or x j free))

pub bytes_past : (x : Marks) (j : ℕ) → length x ≤ j → get_or (bytes_of x) j 0 ≡ 0
bytes_past x j h = go (dec_le (suc j) max_edges)
  where
    go : Dec (j < max_edges) → get_or (bytes_of x) j 0 ≡ 0
    go (yes b) = bytes-at x j b ∙ ap byte_of (get_or-eq_default x free h)
    go (no b) = get_or-eq_default (bytes_of x) 0 (omega (arith, bytes-size x))

pub marks-size : (m : ℕ) (x : List ℕ) → length (marks_in m x) ≡ m
unfolding marks_in
marks-size m x = fill-size m (λ j. mark_of (get_or x j 0))

pub marks-at : (m : ℕ) (x : List ℕ) (i : ℕ) → i < m → get_or (marks_in m x) i free ≡ mark_of (get_or x i 0)
unfolding marks_in
marks-at m x i l = fill-at m (λ j. mark_of (get_or x j 0)) i free l

-- the marks are read back from their bytes
pub bytes_back : (m : ℕ) (x : Marks) → m ≤ max_edges → length x ≡ m → marks_in m (bytes_of x) ≡ x
unfolding marks_in
bytes_back m x b e =
    fill_is m (λ j. mark_of (get_or (bytes_of x) j 0)) x free e
    (λ j h. ap mark_of (bytes-at x j (omega arith)) ∙ mark_byte_lem (get_or x j free))

-- 190 bytes, zero past m
pub record Padded (m : ℕ) (x : List ℕ) : Type 0 where
  pub size : length x ≡ max_edges
  pub past : (j : ℕ) → m ≤ j → get_or x j 0 ≡ 0

pub bytes-padded : (m : ℕ) (x : Marks) → length x ≡ m → Padded m (bytes_of x)
bytes-padded m x e = record { size = bytes-size x; past = λ j h. bytes_past x j (omega (arith, e)) }

-- and bytes from the marks that they are, where the graph that they mark is valid
pub marks_back : (g : Graph) → Valid g → Padded g.m g.mark → g.mark ≡ bytes_of (marks_in g.m g.mark)
unfolding bytes_of
marks_back g v p =
    sym (fill_is max_edges (λ j. byte_of (get_or (marks_in g.m g.mark) j free)) g.mark 0 p.size (λ j b. at j (dec_le (suc j) g.m)))
  where
    at : (j : ℕ) → Dec (j < g.m) → byte_of (get_or (marks_in g.m g.mark) j free) ≡ get_or g.mark j 0
    at j (yes l) = ap byte_of (marks-at g.m g.mark j l) ∙ byte_mark (get_or g.mark j 0) (v.each j l).known
    at j (no l) =
        ap byte_of (get_or-eq_default (marks_in g.m g.mark) free (omega (arith, marks-size g.m g.mark)))
        ∙ sym (p.past j (omega arith))
