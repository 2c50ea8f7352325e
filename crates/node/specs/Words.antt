-- A node's words, as code makes and reads them: the words of the edges that are not excluded and of the free ones, the marks of the edges
-- that are left packed into words, and the two nodes of a split, of one bit more each.
use Rattle.std.specs.Prelude.{◌≡◌, refl, ◌≢◌, Bool, true, false, not, cond, ◌||◌, List, eqb, ℤ, length, set, replicate}
use Rattle.std.proofs.Common.{sym, ap, ap₂, ◌∙◌, subst, true≢false, arith, length-set, pow_mono, pow_pos, get_or-set_same, get_or-set_other}
use Prim.Native.Nat.{ℕ, zero, suc, ◌+◌, ◌-◌, ◌*◌, ◌/◌, ◌%◌, ◌^◌, ◌≤◌, ◌<◌, min}
use Rattle.std.proofs.Math.Nat.{pow-succ'}
use Rattle.std.proofs.Math.Decide.{dec_le, ℕ_discrete}
use Rattle.std.specs.Int.Bits.{bit_and, bit_or}
use Rattle.std.proofs.lemmas.Nat.{or_lt}
use Rattle.std.specs.Int.Count.{count_trailing_zeros}
use Rattle.std.proofs.Math.ListN.{get_or, get_or-eq_default}
use borrow.Author.Tests.{lt-ltb, le-ltb}
use Rattle.std.proofs.Math.Bool.{or-false}
use Rattle.lists.specs.Bools.{bit}
use Rattle.lists.specs.Fill.{replicate-at}
use Rattle.bits.specs.Digits.{bit_of, bit_past, zero_bit}
use Rattle.bits.specs.Words.{or-bit, set-or, power_here, power_there, others-bit}
use Rattle.graph.specs.declared.Graph.{Graph}
use Rattle.graph.specs.Limits.{max_edges}
use Rattle.graph.specs.Network.{Mark, free, required, excluded}
use Rattle.graph.specs.Valid.{Valid}
use Rattle.tree_theory.specs.OneTree.{Edges}
use Rattle.tree_theory.specs.Valid.{is_required, is_excluded, is_free}
use Rattle.machine.specs.Outcomes.{closes}
use Rattle.machine.specs.Machine.{Marks, first_free, branch}
use Rattle.machine.specs.Laws.Branching.{free_is, first_is}
use Rattle.mark_rows.specs.MarkRows.{row_words, node_words, mark_at, mark_bits, rows_of, marks_in_rows}
use Rattle.mark_rows.specs.SixWords.{marks-length, mark_bits_lem, rows_is}
use Rattle.mark_rows.proofs.SixWords.{rows_required, rows_excluded}
use Rattle.thinning.specs.Ranks.{rank, rank_yes}
use Rattle.node.specs.declared.Fate.TheVariants as fate
use Rattle.node.specs.Marks.{with_bytes, byte_of, bytes_of, bytes-at, byte_mark, marks_in, marks-size, marks-at}
use Rattle.node.specs.Opened.{comes_to, opened_as, places, no_rows, kept}
use Rattle.node.specs.Expanding.{expanded_at}
use Rattle.node.specs.Walking.{cut, Masked, walk_first, within, met, between}

-- ---- words of edges by a test

-- the bits that belong to m edges, of a word whose first edge stands at place low; and of word w
abbrev pub full_from : ℕ → ℕ → ℕ
full_from m low = 2 ^ min 64 (m - low) - 1

abbrev pub full_of : ℕ → ℕ → ℕ
full_of m w = full_from m (64 * w)

pub full_none : (m low : ℕ) → m ≤ low → 0 ≡ full_from m low
full_none m low h = let e : min 64 (m - low) ≡ 0 = omega arith in ap (λ (n : ℕ). 2 ^ n - 1) (sym e)

pub full_all : (m low : ℕ) → 64 ≤ m - low → 18446744073709551615 ≡ full_from m low
full_all m low h = let e : min 64 (m - low) ≡ 64 = omega arith in ap (λ (n : ℕ). 2 ^ n - 1) (sym e)

-- a power of two as code shifts it
pub shifted : (n : ℕ) → n < 64 → (1 * 2 ^ n) % 18446744073709551616 ≡ 2 ^ n
shifted n h = omega (arith, pow-succ' 2 n, pow_pos n, pow_mono {i = suc n} {j = 64} h)

pub full_some : (m low : ℕ) → m - low < 64 → (1 * 2 ^ (m - low)) % 18446744073709551616 - 1 ≡ full_from m low
full_some m low h =
    let e : min 64 (m - low) ≡ m - low = omega arith in
    ap (λ (n : ℕ). n - 1) (shifted (m - low) h) ∙ ap (λ (n : ℕ). 2 ^ n - 1) (sym e)

-- those of the edges that x has not
pub masked_others : (c : Edges) (x m w : ℕ) → ((j : ℕ) → j < 64 → 64 * w + j < m → not (bit_of x j) ≡ c (suc (64 * w + j)))
    → Masked c m w (full_of m w - bit_and x (full_of m w))
masked_others c x m w h = record {
  small = omega (arith, size, pow_mono {i = min 64 (m - 64 * w)} {j = 64} (omega arith), pow_pos (min 64 (m - 64 * w)));
  live = λ j l u. others-bit (min 64 (m - 64 * w)) x j (omega arith) ∙ h j l u;
  past = λ j u. past j u (dec_le 64 j);
}
  where
    size : full_of m w - bit_and x (full_of m w) ≤ full_of m w
    size = omega arith

    past : (j : ℕ) → m ≤ 64 * w + j → Dec (64 ≤ j) → bit_of (full_of m w - bit_and x (full_of m w)) j ≡ false
    past j u d =
        bit_past (min 64 (m - 64 * w)) (full_of m w - bit_and x (full_of m w)) j (omega (arith, size, pow_pos (min 64 (m - 64 * w)))) (omega arith)

-- the edges that are not excluded, and the free ones, of any six words
abbrev pub kept_in : ℕ → List ℕ → Edges
kept_in m rows = kept (bytes_of (marks_in_rows m rows))

-- a graph with their marks
abbrev pub marked_in : ℕ → List ℕ → Graph → Graph
marked_in m rows g = with_bytes g (bytes_of (marks_in_rows m rows))

abbrev pub free_in : ℕ → List ℕ → Edges
free_in m rows k = is_free (mark_at (marks_in_rows m rows) k)

not_excluded : (a b : Bool) → not (eqb (byte_of (mark_bits a b)) 2) ≡ not b
not_excluded true true = refl
not_excluded true false = refl
not_excluded false true = refl
not_excluded false false = refl

is_free_lem : (a b : Bool) → is_free (mark_bits a b) ≡ not (a || b)
is_free_lem true true = refl
is_free_lem true false = refl
is_free_lem false true = refl
is_free_lem false false = refl

module _ (m : ℕ) (rows : List ℕ) (few : m ≤ max_edges) where
  byte_bits : (k : ℕ) → k < m → get_or (bytes_of (marks_in_rows m rows)) k 0
      ≡ byte_of (mark_bits (bit_of (get_or rows (k / 64) 0) (k % 64)) (bit_of (get_or rows (row_words + k / 64) 0) (k % 64)))
  byte_bits k h = bytes-at (marks_in_rows m rows) k (omega arith) ∙ ap byte_of (mark_bits_lem m rows k few h)

  kept-bit : (k : ℕ) → k < m → kept_in m rows (suc k) ≡ not (bit_of (get_or rows (row_words + k / 64) 0) (k % 64))
  kept-bit k h =
      ap (λ (b : ℕ). not (eqb b 2)) (byte_bits k h)
      ∙ not_excluded (bit_of (get_or rows (k / 64) 0) (k % 64)) (bit_of (get_or rows (row_words + k / 64) 0) (k % 64))

  free_bit : (k : ℕ) → k < m
      → free_in m rows (suc k) ≡ not (bit_of (get_or rows (k / 64) 0) (k % 64) || bit_of (get_or rows (row_words + k / 64) 0) (k % 64))
  free_bit k h =
      ap is_free (mark_bits_lem m rows k few h)
      ∙ is_free_lem (bit_of (get_or rows (k / 64) 0) (k % 64)) (bit_of (get_or rows (row_words + k / 64) 0) (k % 64))

  -- word w
  module _ (w : ℕ) where
    at-word : (j : ℕ) → j < 64 → (64 * w + j) / 64 ≡ w
    at-word j l = omega arith

    at-bit : (j : ℕ) → j < 64 → (64 * w + j) % 64 ≡ j
    at-bit j l = omega arith

    pub live_masked : Masked (kept_in m rows) m w (full_of m w - bit_and (get_or rows (row_words + w) 0) (full_of m w))
    live_masked =
        masked_others (kept_in m rows) (get_or rows (row_words + w) 0) m w
        (λ j l u. sym (kept-bit (64 * w + j) u
        ∙ ap₂ (λ (a b : ℕ). not (bit_of (get_or rows (row_words + a) 0) b)) (at-word j l) (at-bit j l)))

    pub free_masked : Masked (free_in m rows) m w
        (full_of m w - bit_and (bit_or (get_or rows w 0) (get_or rows (row_words + w) 0)) (full_of m w))
    free_masked =
        masked_others (free_in m rows) (bit_or (get_or rows w 0) (get_or rows (row_words + w) 0)) m w
        (λ j l u. ap not (or-bit (get_or rows w 0) (get_or rows (row_words + w) 0) j)
        ∙ sym (free_bit (64 * w + j) u
        ∙ ap₂ (λ (a b : ℕ). not (bit_of (get_or rows a 0) b || bit_of (get_or rows (row_words + a) 0) b)) (at-word j l) (at-bit j l)))

-- before word 0
pub ranked_none : (c : Edges) (m : ℕ) → 0 ≡ rank c (cut m 0 0)
unfolding rank
ranked_none c m = let e : cut m 0 0 ≡ 0 = omega arith in ap (rank c) (sym e)

-- ---- the marks of the edges that are left

-- the byte of an edge that is not excluded: 1 where its bit in the required row is set
abbrev pub required_byte : List ℕ → ℕ → ℕ
required_byte rows k = bit (bit_of (get_or rows (k / 64) 0) (k % 64))

kept_byte : (a b : Bool) → not b ≡ true → byte_of (mark_bits a b) ≡ bit a
kept_byte true true e = absurd (true≢false (sym e))
kept_byte true false e = refl
kept_byte false true e = absurd (true≢false (sym e))
kept_byte false false e = refl

-- which is that of its mark
pub kept-mark : (m : ℕ) (rows : List ℕ) → m ≤ max_edges → (k : ℕ) → k < m → kept_in m rows (suc k) ≡ true
    → required_byte rows k ≡ get_or (bytes_of (marks_in_rows m rows)) k 0
kept-mark m rows few k l y =
    sym (byte_bits m rows few k l
    ∙ kept_byte (bit_of (get_or rows (k / 64) 0) (k % 64)) (bit_of (get_or rows (row_words + k / 64) 0) (k % 64)) (sym (kept-bit m rows few k l) ∙ y))

-- ---- packed

abbrev pub bit_where : ℕ → ℕ → ℕ → ℕ
bit_where mark value b = cond (eqb mark value) b 0

-- an edge's byte once the passes are made: that of its mark among the edges that are left, or 2 where it was excluded
abbrev pub new_byte : ℕ → List ℕ → List ℕ → ℕ → ℕ
new_byte m rows marks k = expanded_at (bytes_of (marks_in_rows m rows)) marks 2 k

-- word w of both rows
pub record PackedWord (m : ℕ) (new : ℕ → ℕ) (w r s : ℕ) : Type 0 where
  pub small₁ : r < 2 ^ 64
  pub small₂ : s < 2 ^ 64
  pub on : (i : ℕ) → i < 64 → 64 * w + i < m → bit_of r i ≡ eqb (new (64 * w + i)) 1
  pub off : (i : ℕ) → i < 64 → 64 * w + i < m → bit_of s i ≡ eqb (new (64 * w + i)) 2
  pub past₁ : (i : ℕ) → m ≤ 64 * w + i → bit_of r i ≡ false
  pub past₂ : (i : ℕ) → m ≤ 64 * w + i → bit_of s i ≡ false

-- the first n words of both
pub record Packed (m : ℕ) (new : ℕ → ℕ) (n : ℕ) (l : List ℕ) : Type 0 where
  pub size : length l ≡ node_words
  pub word : (w : ℕ) → w < n → PackedWord m new w (get_or l w 0) (get_or l (row_words + w) 0)

-- one word more
pub record PackedTo (m : ℕ) (new : ℕ → ℕ) (w : ℕ) (was l : List ℕ) : Type 0 where
  pub size : length l ≡ node_words
  pub word : PackedWord m new w (get_or l w 0) (get_or l (row_words + w) 0)
  pub same : (i : ℕ) → i < w → (get_or l i 0 ≡ get_or was i 0) × (get_or l (row_words + i) 0 ≡ get_or was (row_words + i) 0)

pub packed_set : (m : ℕ) (new : ℕ → ℕ) (w r s : ℕ) (l : List ℕ) → length l ≡ node_words → w < row_words → PackedWord m new w r s
    → PackedTo m new w l (set (set l w r) (row_words + w) s)
packed_set m new w r s l e b p = record {
  size = length-set (set l w r) (row_words + w) s ∙ length-set l w r ∙ e;
  word =
      subst (λ (y : ℕ). PackedWord m new w (get_or (set (set l w r) (row_words + w) s) w 0) y)
      (sym (get_or-set_same (set l w r) (row_words + w) s 0 (omega (arith, length-set l w r))))
      (subst (λ (y : ℕ). PackedWord m new w y s)
      (sym (get_or-set_other (set l w r) (row_words + w) w s 0 (omega arith) ∙ get_or-set_same l w r 0 (omega arith))) p);
  same = λ i h. (
    get_or-set_other (set l w r) (row_words + w) i s 0 (omega arith) ∙ get_or-set_other l w i r 0 (omega arith),
    get_or-set_other (set l w r) (row_words + w) (row_words + i) s 0 (omega arith) ∙ get_or-set_other l w (row_words + i) r 0 (omega arith),
  );
}

pub packed_none : (m : ℕ) (new : ℕ → ℕ) (l : List ℕ) → length l ≡ node_words → Packed m new 0 l
packed_none m new l e = record { size = e; word = λ w h. absurd (omega arith) }

pub packed_more : (m : ℕ) (new : ℕ → ℕ) (w : ℕ) (was l : List ℕ) → Packed m new w was → PackedTo m new w was l → Packed m new (w + 1) l
packed_more m new w was l p t = record { size = t.size; word = λ i h. go i h (ℕ_discrete i w) }
  where
    go : (i : ℕ) → i < w + 1 → Dec (i ≡ w) → PackedWord m new i (get_or l i 0) (get_or l (row_words + i) 0)
    go i h (yes e) = subst (λ (k : ℕ). PackedWord m new k (get_or l k 0) (get_or l (row_words + k) 0)) (sym e) t.word
    go i h (no e) =
        let k : i < w = omega arith in
        subst (λ (y : ℕ). PackedWord m new i (get_or l i 0) y) (sym (t.same i k).1)
        (subst (λ (y : ℕ). PackedWord m new i y (get_or was (row_words + i) 0)) (sym (t.same i k).0) (p.word i k))

byte_required : (y : Mark) → eqb (byte_of y) 1 ≡ is_required y
byte_required free = refl
byte_required required = refl
byte_required excluded = refl

byte_excluded : (y : Mark) → eqb (byte_of y) 2 ≡ is_excluded y
byte_excluded free = refl
byte_excluded required = refl
byte_excluded excluded = refl

-- ALL WORDS PACKED are the words of the new marks
pub packed_rows : (m : ℕ) (new : ℕ → ℕ) (l : List ℕ) (y : Marks) → length y ≡ m → ((k : ℕ) → k < m → new k ≡ byte_of (get_or y k free))
    → Packed m new row_words l → l ≡ rows_of y
packed_rows m new l y long same p =
    rows_is y l (record { size = p.size; small = λ i h. small i h (dec_le (suc i) row_words) })
    (λ w j a b. on w j a b (dec_le (suc (64 * w + j)) m))
    (λ w j a b. off w j a b (dec_le (suc (64 * w + j)) m))
  where
    small : (i : ℕ) → i < node_words → Dec (i < row_words) → get_or l i 0 < 2 ^ 64
    small i h (yes b) = (p.word i b).small₁
    small i h (no b) =
        let e : row_words + (i - row_words) ≡ i = omega arith in
        subst (λ (k : ℕ). get_or l k 0 < 2 ^ 64) e (p.word (i - row_words) (omega arith)).small₂

    past : (k : ℕ) → m ≤ k → get_or y k free ≡ free
    past k h = get_or-eq_default y free (omega (arith, long))

    on : (w j : ℕ) → w < row_words → j < 64 → Dec (64 * w + j < m) → bit_of (get_or l w 0) j ≡ is_required (get_or y (64 * w + j) free)
    on w j a b (yes h) =
        (p.word w a).on j b h ∙ ap (λ (k : ℕ). eqb k 1) (same (64 * w + j) h) ∙ byte_required (get_or y (64 * w + j) free)
    on w j a b (no h) = (p.word w a).past₁ j (omega arith) ∙ sym (ap is_required (past (64 * w + j) (omega arith)))

    off : (w j : ℕ) → w < row_words → j < 64 → Dec (64 * w + j < m) → bit_of (get_or l (row_words + w) 0) j ≡ is_excluded (get_or y (64 * w + j) free)
    off w j a b (yes h) =
        (p.word w a).off j b h ∙ ap (λ (k : ℕ). eqb k 2) (same (64 * w + j) h) ∙ byte_excluded (get_or y (64 * w + j) free)
    off w j a b (no h) = (p.word w a).past₂ j (omega arith) ∙ sym (ap is_excluded (past (64 * w + j) (omega arith)))

-- the byte of an edge that is left
pub new-left : (m : ℕ) (rows marks : List ℕ) (k f : ℕ) → kept_in m rows (suc k) ≡ true → f ≡ rank (kept_in m rows) k
    → new_byte m rows marks k ≡ get_or marks f 0
new-left m rows marks k f y e = rw (y, e)

-- AND OF A GRAPH'S OWN MARKS, packed where no edge is excluded before
rank_all : (c : Edges) (m k : ℕ) → ((i : ℕ) → i < m → c (suc i) ≡ true) → k ≤ m → rank c k ≡ k
unfolding rank
rank_all c m zero h l = refl
rank_all c m (suc k) h l = omega (arith, rank_yes c k (h k (omega arith)), rank_all c m k h (omega arith))

pub own_rows : (g : Graph) → Valid g → (l : List ℕ) → Packed g.m (new_byte g.m no_rows g.mark) row_words l → l ≡ rows_of (marks_in g.m g.mark)
own_rows g v l p =
    packed_rows g.m (new_byte g.m no_rows g.mark) l (marks_in g.m g.mark) (marks-size g.m g.mark)
    (λ k h. new-left g.m no_rows g.mark k k (all k h) (sym (rank_all (kept_in g.m no_rows) g.m k all (omega arith)))
    ∙ sym (byte_mark (get_or g.mark k 0) (v.each k h).known)
    ∙ ap byte_of (sym (marks-at g.m g.mark k h))) p
  where
    all : (i : ℕ) → i < g.m → kept_in g.m no_rows (suc i) ≡ true
    all i h =
        kept-bit g.m no_rows v.few i h
        ∙ ap (λ (x : ℕ). not (bit_of x (i % 64))) (replicate-at node_words 0 (row_words + i / 64))
        ∙ ap not (zero_bit (i % 64))

-- ---- the loop that packs a word

where_here : (a v t : ℕ) → bit_of (bit_where a v (2 ^ t)) t ≡ eqb a v
where_here a v t = go (eqb a v)
  where
    go : (b : Bool) → bit_of (cond b (2 ^ t) 0) t ≡ b
    go true = power_here t
    go false = zero_bit t

where_there : (a v t i : ℕ) → i ≢ t → bit_of (bit_where a v (2 ^ t)) i ≡ false
where_there a v t i n = go (eqb a v)
  where
    go : (b : Bool) → bit_of (cond b (2 ^ t) 0) i ≡ false
    go true = power_there t i n
    go false = zero_bit i

where_lt : (a v t : ℕ) → t < 64 → bit_where a v (2 ^ t) < 2 ^ 64
where_lt a v t h = go (eqb a v)
  where
    go : (b : Bool) → cond b (2 ^ t) 0 < 2 ^ 64
    go true = omega (arith, pow-succ' 2 t, pow_pos t, pow_mono {i = suc t} {j = 64} h)
    go false = omega arith

-- below `upto` both words have their new bits; from there the one has none, and the other those of the edges that were excluded
pub record Packing (c : Edges) (m w : ℕ) (new : ℕ → ℕ) (upto r s : ℕ) : Type 0 where
  pub small₁ : r < 2 ^ 64
  pub small₂ : s < 2 ^ 64
  pub on : (i : ℕ) → i < upto → 64 * w + i < m → bit_of r i ≡ eqb (new (64 * w + i)) 1
  pub off : (i : ℕ) → i < upto → 64 * w + i < m → bit_of s i ≡ eqb (new (64 * w + i)) 2
  pub rest₁ : (i : ℕ) → upto ≤ i → bit_of r i ≡ false
  pub rest₂ : (i : ℕ) → i < 64 → upto ≤ i → 64 * w + i < m → bit_of s i ≡ not (c (suc (64 * w + i)))
  pub past₁ : (i : ℕ) → m ≤ 64 * w + i → bit_of r i ≡ false
  pub past₂ : (i : ℕ) → m ≤ 64 * w + i → bit_of s i ≡ false

module _ (c : Edges) (m w : ℕ) (new : ℕ → ℕ) (gone : (k : ℕ) → c (suc k) ≡ false → new k ≡ 2) where
  pub packing_first : (live : ℕ) → Masked c m w live → Packing c m w new 0 0 (full_of m w - bit_and live (full_of m w))
  packing_first live h = record {
    small₁ = omega arith;
    small₂ = o.small;
    on = λ i b. absurd (omega arith);
    off = λ i b. absurd (omega arith);
    rest₁ = λ i b. zero_bit i;
    rest₂ = λ i l b u. o.live i l u;
    past₁ = λ i b. zero_bit i;
    past₂ = o.past;
  }
    where
      o : Masked (λ k. not (c k)) m w (full_of m w - bit_and live (full_of m w))
      o = masked_others (λ k. not (c k)) live m w (λ j l u. ap not (h.live j l u))

  -- to where the edges below are none of c
  pub packing_skip : (a b r s : ℕ) → a ≤ b → b ≤ 64 → ((i : ℕ) → a ≤ i → i < b → 64 * w + i < m → c (suc (64 * w + i)) ≡ false)
      → Packing c m w new a r s → Packing c m w new b r s
  packing_skip a b r s l u out p = record {
    small₁ = p.small₁;
    small₂ = p.small₂;
    on = λ i h k. on i h k (dec_le (suc i) a);
    off = λ i h k. off i h k (dec_le (suc i) a);
    rest₁ = λ i h. p.rest₁ i (omega arith);
    rest₂ = λ i v h k. p.rest₂ i v (omega arith) k;
    past₁ = p.past₁;
    past₂ = p.past₂;
  }
    where
      on : (i : ℕ) → i < b → 64 * w + i < m → Dec (i < a) → bit_of r i ≡ eqb (new (64 * w + i)) 1
      on i h k (yes d) = p.on i d k
      on i h k (no d) =
          p.rest₁ i (omega arith) ∙ sym (ap (λ (e : ℕ). eqb e 1) (gone (64 * w + i) (out i (omega arith) h k)))

      off : (i : ℕ) → i < b → 64 * w + i < m → Dec (i < a) → bit_of s i ≡ eqb (new (64 * w + i)) 2
      off i h k (yes d) = p.off i d k
      off i h k (no d) =
          p.rest₂ i (omega arith) (omega arith) k
          ∙ ap not (out i (omega arith) h k)
          ∙ sym (ap (λ (e : ℕ). eqb e 2) (gone (64 * w + i) (out i (omega arith) h k)))

  -- the edge at t, which c has, with its mark
  pub packing_met : (t r s mark : ℕ) → t < 64 → 64 * w + t < m → c (suc (64 * w + t)) ≡ true → new (64 * w + t) ≡ mark → Packing c m w new t r s
      → Packing c m w new (suc t) (bit_or r (bit_where mark 1 (2 ^ t))) (bit_or s (bit_where mark 2 (2 ^ t)))
  packing_met t r s mark l u y e p = record {
    small₁ = or_lt 64 r (bit_where mark 1 (2 ^ t)) p.small₁ (where_lt mark 1 t l);
    small₂ = or_lt 64 s (bit_where mark 2 (2 ^ t)) p.small₂ (where_lt mark 2 t l);
    on = λ i h k. on i h k (ℕ_discrete i t);
    off = λ i h k. off i h k (ℕ_discrete i t);
    rest₁ = λ i h. other r 1 i (omega arith) ∙ p.rest₁ i (omega arith);
    rest₂ = λ i v h k. other s 2 i (omega arith) ∙ p.rest₂ i v (omega arith) k;
    past₁ = λ i h. other r 1 i (omega arith) ∙ p.past₁ i h;
    past₂ = λ i h. other s 2 i (omega arith) ∙ p.past₂ i h;
  }
    where
      other : (x v i : ℕ) → i ≢ t → bit_of (bit_or x (bit_where mark v (2 ^ t))) i ≡ bit_of x i
      other x v i n =
          or-bit x (bit_where mark v (2 ^ t)) i
          ∙ ap (λ (b : Bool). bit_of x i || b) (where_there mark v t i n)
          ∙ or-false (bit_of x i)

      here : (x v : ℕ) → bit_of x t ≡ false → bit_of (bit_or x (bit_where mark v (2 ^ t))) t ≡ eqb (new (64 * w + t)) v
      here x v n =
          or-bit x (bit_where mark v (2 ^ t)) t
          ∙ ap₂ (λ (a b : Bool). a || b) n (where_here mark v t)
          ∙ ap (λ (k : ℕ). eqb k v) (sym e)

      on : (i : ℕ) → i < suc t → 64 * w + i < m → Dec (i ≡ t)
          → bit_of (bit_or r (bit_where mark 1 (2 ^ t))) i ≡ eqb (new (64 * w + i)) 1
      on i h k (yes q) = rw q (here r 1 (p.rest₁ t (omega arith)))
      on i h k (no q) = other r 1 i q ∙ p.on i (omega arith) k

      off : (i : ℕ) → i < suc t → 64 * w + i < m → Dec (i ≡ t)
          → bit_of (bit_or s (bit_where mark 2 (2 ^ t))) i ≡ eqb (new (64 * w + i)) 2
      off i h k (yes q) = rw q (here s 2 (p.rest₂ t l (omega arith) u ∙ ap not y))
      off i h k (no q) = other s 2 i q ∙ p.off i (omega arith) k

  pub packing_all : (r s : ℕ) → Packing c m w new 64 r s → PackedWord m new w r s
  packing_all r s p = record {
    small₁ = p.small₁;
    small₂ = p.small₂;
    on = p.on;
    off = p.off;
    past₁ = p.past₁;
    past₂ = p.past₂;
  }

pub new_gone : (m : ℕ) (rows marks : List ℕ) (k : ℕ) → kept_in m rows (suc k) ≡ false → new_byte m rows marks k ≡ 2
new_gone m rows marks k y = rw y

-- ---- the lowest free edge, or m

pub record FirstFree (m : ℕ) (rows : List ℕ) (k : ℕ) : Type 0 where
  pub most : k ≤ m
  pub below : (j : ℕ) → j < k → free_in m rows (suc j) ≡ false
  pub here : k < m → free_in m rows (suc k) ≡ true

-- none below word w is free
abbrev pub NoneBelow : ℕ → List ℕ → ℕ → Type 0
NoneBelow m rows k = (j : ℕ) → j < k → free_in m rows (suc j) ≡ false

-- a word without free edges
pub none_more : (m : ℕ) (rows : List ℕ) (w x : ℕ) → Masked (free_in m rows) m w x → x ≡ 0 → NoneBelow m rows (cut m w 0)
    → NoneBelow m rows (cut m (w + 1) 0)
none_more m rows w x h e none j l = go (dec_le (suc j) (cut m w 0))
  where
    go : Dec (j < cut m w 0) → free_in m rows (suc j) ≡ false
    go (yes b) = none j b
    go (no b) =
        let q : 64 * w + (j - 64 * w) ≡ j = omega arith in
        ap (λ (k : ℕ). free_in m rows (suc k)) (sym q)
        ∙ sym (h.live (j - 64 * w) (omega arith) (omega arith))
        ∙ ap (λ (y : ℕ). bit_of y (j - 64 * w)) e
        ∙ zero_bit (j - 64 * w)

-- and one with some
pub first_in : (m : ℕ) (rows : List ℕ) (w x : ℕ) → Masked (free_in m rows) m w x → x ≢ 0 → NoneBelow m rows (cut m w 0)
    → FirstFree m rows (64 * w + count_trailing_zeros 64 x)
unfolding walk_first
first_in m rows w x h some none = record {
  most = omega (arith, within (free_in m rows) m w x h x _ (walk_first (free_in m rows) m w x h _ refl) some);
  below = λ j l. go j l (dec_le (suc j) (cut m w 0));
  here = λ l. met (free_in m rows) m w x h x _ (walk_first (free_in m rows) m w x h _ refl) some;
}
  where
    go : (j : ℕ) → j < 64 * w + count_trailing_zeros 64 x → Dec (j < cut m w 0) → free_in m rows (suc j) ≡ false
    go j l (yes b) = none j b
    go j l (no b) = between (free_in m rows) m w x h x _ (walk_first (free_in m rows) m w x h _ refl) some j (omega arith) l

pub first_none : (m : ℕ) (rows : List ℕ) → m ≤ max_edges → NoneBelow m rows (cut m 3 0) → FirstFree m rows m
first_none m rows few none = record { most = omega arith; below = λ j l. none j (omega arith); here = λ l. absurd (omega arith) }

-- ---- the two nodes of a split

both_clear : (a b : Bool) → is_free (mark_bits a b) ≡ true → (a ≡ false) × (b ≡ false)
both_clear true true e = absurd (true≢false (sym e))
both_clear true false e = absurd (true≢false (sym e))
both_clear false true e = absurd (true≢false (sym e))
both_clear false false e = (refl, refl)

-- words with one bit more, bit t of word w
abbrev pub with_bit : ℕ → ℕ → List ℕ → List ℕ
with_bit w t rows = set rows w (bit_or (get_or rows w 0) (2 ^ t))

module _ (m : ℕ) (rows : List ℕ) (few : m ≤ max_edges) (k : ℕ) (f : FirstFree m rows k) where
  abbrev marks : Marks
  marks = marks_in_rows m rows

  first : first_free marks ≡ k
  first = first_is marks k (omega (arith, f.most, marks-length m rows)) (λ j l. f.below j l)
      (λ l. free_is (get_or marks k free) (f.here (omega (arith, marks-length m rows))))

  pub branch_closes : (d : List ℤ) → k ≡ m → opened_as (branch d marks) ≡ opened_as closes
  unfolding branch
  branch_closes d e = rw (first, le-ltb k (length marks) (omega (arith, marks-length m rows)))

  pub branch_splits : (d : List ℤ) → k < m → rows ≡ rows_of marks
      → comes_to fate.Splits (with_bit (row_words + k / 64) (k % 64) rows) (with_bit (k / 64) (k % 64) rows) (replicate max_edges 0) (places d) ≡ opened_as (branch d marks)
  unfolding branch opened_as
  branch_splits d h e =
      rw (first, lt-ltb k (length marks) (omega (arith, marks-length m rows)))
      (λ i. comes_to fate.Splits (lower i) (upper i) (replicate max_edges 0) (places d))
    where
      open_edge : get_or marks k free ≡ free
      open_edge = free_is (get_or marks k free) (f.here h)

      clear : (bit_of (get_or rows (k / 64) 0) (k % 64) ≡ false) × (bit_of (get_or rows (row_words + k / 64) 0) (k % 64) ≡ false)
      clear = both_clear _ _ (ap is_free (sym (mark_bits_lem m rows k few h)) ∙ f.here h)

      lower : with_bit (row_words + k / 64) (k % 64) rows ≡ rows_of (set marks k excluded)
      lower =
          ap (set rows (row_words + k / 64)) (set-or (get_or rows (row_words + k / 64) 0) (k % 64) clear.1)
          ∙ ap (λ (l : List ℕ). set l (row_words + k / 64) (get_or l (row_words + k / 64) 0 + 2 ^ (k % 64))) e
          ∙ sym (rows_excluded m marks few (marks-length m rows) k h open_edge)

      upper : with_bit (k / 64) (k % 64) rows ≡ rows_of (set marks k required)
      upper =
          let z : k / 64 ≡ 0 + k / 64 = omega arith in
          ap (set rows (k / 64)) (set-or (get_or rows (k / 64) 0) (k % 64) clear.0)
          ∙ ap (λ (l : List ℕ). set l (k / 64) (get_or l (k / 64) 0 + 2 ^ (k % 64))) e
          ∙ ap (λ (w : ℕ). set (rows_of marks) w (get_or (rows_of marks) w 0 + 2 ^ (k % 64))) z
          ∙ sym (rows_required m marks few (marks-length m rows) k h open_edge)
