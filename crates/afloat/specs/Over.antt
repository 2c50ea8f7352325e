-- Document 02's C-20, "Buoys hauled out": some vertices are inactive, and 1-trees, bounds, rulings and tours are over the active ones. In the words
-- of OneTree and Tours and of the request, as definitions and nothing else; how any of it is computed stands elsewhere. (Document 02's words: buoy,
-- leg, struck, due, round; ashore for inactive, afloat for active.)
use Rattle.std.specs.Prelude.{◌≡◌, ◌↔◌, Bool, true, false, not, cond, ◌&&◌, ◌||◌, List, ◌∷◌, ℕ, ◌+◌, eqb, leb, length, get_or, ℤ, pos, ◌≤ℤ◌, ◌<ℤ◌}
use Rattle.lists.specs.Members.{◌∈◌}
use Rattle.lists.specs.All.{every_of}
use Rattle.lists.specs.Select.{select}
use Rattle.lists.specs.Distinct.{Distinct}
use Rattle.lists.specs.Numbers.{up_to}
use Rattle.lists.specs.Rows.{row}
use Rattle.graph.specs.Network.{Network, Mark, required, excluded}
use Rattle.spanning.specs.Walks.{Walk}
use Rattle.tree_theory.specs.OneTree.{Edges, at_one, away, bound, lacks_first}
use Rattle.tree_theory.specs.Inputs.{multiplier}
use Rattle.tours.specs.Tours.{Trip, cost}

-- ---- which vertices

-- says of each vertex whether it is inactive
abbrev pub Ashore : Type 0
Ashore = ℕ → Bool

abbrev pub active : Ashore → ℕ → Bool
active s v = not (s v)

-- "a list of n bytes, 1 for ashore, 0 for afloat": the byte of vertex v stands at place v − 1
unfoldable pub ashore : List ℕ → Ashore
ashore l v = eqb (get_or (0 ∷ l) v 0) 1

-- how many of n vertices are active: "as many .. as there are afloat"
unfoldable pub active_count : Ashore → ℕ → ℕ
unfolding select up_to
active_count s n = length (select (active s) (up_to n))

-- "35 when a byte is above 1, buoy 1 is ashore, or fewer than three are afloat": when it does not apply. 0 is no fault
unfoldable pub ashore_fits : List ℕ → ℕ → Bool
unfolding every_of ashore active_count
ashore_fits l n = every_of (λ b. leb b 1) l && (not (ashore l 1) && leb 3 (active_count (ashore l) n))

unfoldable pub ashore_fault : List ℕ → ℕ → ℕ
unfolding ashore_fits
ashore_fault l n = cond (not (ashore_fits l n)) 35 0

-- the active vertices other than vertex 1
unfoldable pub others_over : Ashore → Network → List ℕ
unfolding select up_to
others_over s g = select (λ v. active s v && not (eqb v 1)) (up_to g.n)

-- ---- marks and multipliers

-- "A leg touching such a buoy"
abbrev pub touched : Ashore → Network → ℕ → Bool
touched s g k = s (g.a k) || s (g.b k)

-- "counts as struck, whatever its mark"
abbrev pub mark_over : Ashore → Network → ℕ → Mark
mark_over s g k = cond (touched s g k) excluded (g.mark k)

-- "the buoy's due counts as 0"
abbrev pub multiplier_over : Ashore → (ℕ → ℤ) → ℕ → ℤ
multiplier_over s d v = cond (s v) (pos 0) (d v)

-- "and opening piles it so": the marks and the multipliers that count, as lists of the m edges and of the n vertices
unfoldable pub marks_over : Ashore → Network → List Mark
unfolding row
marks_over s g = row g.m (mark_over s g)

unfoldable pub multipliers_over : Ashore → ℕ → List ℤ → List ℤ
unfolding row multiplier
multipliers_over s n d = row n (multiplier_over s (multiplier d))

-- ---- 1-trees: "rounds and 1-trees are over the afloat buoys, with as many legs as there are afloat"

pub record OneTreeOver (s : Ashore) (g : Network) (t : Edges) : Type 0 where
  -- two at vertex 1
  pub two : length (at_one g t) ≡ 2
  -- the others among the other active vertices, so that as many are in it as are active
  pub rest : 2 + length (away g t) ≡ active_count s g.n
  -- which they connect
  pub joined : (u v : ℕ) → u ∈ others_over s g → v ∈ others_over s g → Walk g.a g.b (away g t) u v
  -- every required edge, and no excluded one
  pub keeps : (k : ℕ) → k ∈ up_to g.m → mark_over s g k ≡ required → t k ≡ true
  pub avoids : (k : ℕ) → k ∈ up_to g.m → mark_over s g k ≡ excluded → t k ≡ false

-- document 01's bound, with the multipliers that count
unfoldable pub bound_over : Ashore → Network → (ℕ → ℤ) → Edges → ℤ
unfolding bound
bound_over s g d t = bound g (multiplier_over s d) t

-- the 1-tree of least bound, the first of them
pub record LeastOver (s : Ashore) (g : Network) (d : ℕ → ℤ) (t : Edges) : Type 0 where
  pub tree : OneTreeOver s g t
  pub least : (r : Edges) → OneTreeOver s g r → bound_over s g d t ≤ℤ bound_over s g d r
  pub first : (r : Edges) → OneTreeOver s g r → bound_over s g d r ≡ bound_over s g d t → lacks_first g.m r t ≡ false

-- "The verdict and ruling facts are about those rounds": no 1-tree over the active vertices is within the ceiling; none with the edge; none
-- without it
unfoldable pub InfeasibleOver : Ashore → Network → (ℕ → ℤ) → ℤ → Type 0
InfeasibleOver s g d ceiling = (t : Edges) → OneTreeOver s g t → ceiling <ℤ bound_over s g d t

unfoldable pub BarredOver : Ashore → Network → (ℕ → ℤ) → ℤ → ℕ → Type 0
BarredOver s g d ceiling e = (t : Edges) → OneTreeOver s g t → t e ≡ true → ceiling <ℤ bound_over s g d t

unfoldable pub ForcedOver : Ashore → Network → (ℕ → ℤ) → ℤ → ℕ → Type 0
ForcedOver s g d ceiling e = (t : Edges) → OneTreeOver s g t → t e ≡ false → ceiling <ℤ bound_over s g d t

-- ---- tours: "A round now visits every buoy that is afloat"

pub record TourOver (s : Ashore) (g : Network) (t : Edges) : Type 0 where
  -- "with as many legs as there are afloat"
  pub number : length (select t (up_to g.m)) ≡ active_count s g.n
  -- by these edges from vertex 1 to each other active vertex, once, and back to vertex 1; to no inactive one, where "the ship must not call"
  pub order : List ℕ
  pub once : Distinct order
  pub calls : (v : ℕ) → (v ∈ order) ↔ (v ∈ others_over s g)
  pub trip : Trip g t 1 order 1

-- every required edge, and no excluded one
pub record AllowedOver (s : Ashore) (g : Network) (t : Edges) : Type 0 where
  pub keeps : (k : ℕ) → k ∈ up_to g.m → mark_over s g k ≡ required → t k ≡ true
  pub avoids : (k : ℕ) → k ∈ up_to g.m → mark_over s g k ≡ excluded → t k ≡ false

-- an allowed tour with a cost at or below the ceiling
pub record FeasibleOver (s : Ashore) (g : Network) (ceiling : ℤ) (t : Edges) : Type 0 where
  pub tour : TourOver s g t
  pub allowed : AllowedOver s g t
  pub cheap : cost g t ≤ℤ ceiling
