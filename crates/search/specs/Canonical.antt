-- THE RECORD'S CHECK, "24 the record fails its own check, which docs/ states": `Canonical`, field by field. docs/RECORD.md says the same in
-- words, Check.antt has the test that is passed exactly where it holds, and Inverse.antt shows that such a record stands for a state of the
-- machine. Definitions only.
use Rattle.std.specs.Prelude.{◌≡◌, Bool, true, false, cond, List, ℕ, ◌+◌, ◌*◌, ◌≤◌, ◌<◌, ltb, get_or, ℤ, pos}
use Rattle.graph.specs.Limits.{max_vertices, max_edges, max_count}
use Rattle.graph.specs.declared.Graph.{Graph}
use Rattle.graph.specs.Network.{network}
use Rattle.tree_theory.specs.OneTree.{Edges}
use Rattle.tree_theory.specs.Inputs.{multipliers_fit, ceiling_fits}
use Rattle.afloat.specs.Over.{ashore, touched}
use Rattle.machine.specs.Requireds.{requireds}
use Rattle.machine.specs.Kept.{Off}
use Rattle.machine.specs.Calls.{fault}
use Rattle.mark_rows.specs.MarkRows.{node_words, RowsFit}
use Rattle.search.specs.Record.{max_nodes, stack_size, no_settings, rows_at, marks_at, multipliers_at, is_open, has_tour, ashore_in, opening_in, active_in}
use Rattle.search.specs.declared.Search.{Search}

-- ---- places that are not used are zero

-- zero from place `from` on, in an array of n
abbrev pub Zeros : {A : Type 0} → A → ℕ → ℕ → List A → Type 0
Zeros z n from l = (i : ℕ) → i < n → from ≤ i → get_or l i z ≡ z

-- no byte of the record's list says ashore
abbrev pub NoneAshore : Search → Type 0
NoneAshore s = Zeros 0 max_vertices 0 s.ashore

-- past m in the graph's arrays
pub record GraphTidy (g : Graph) : Type 0 where
  pub a : Zeros 0 max_edges g.m g.a
  pub b : Zeros 0 max_edges g.m g.b
  pub cost : Zeros (pos 0) max_edges g.m g.cost
  pub mark : Zeros 0 max_edges g.m g.mark

-- the words of the nodes from the depth on
abbrev pub StackTidy : ℕ → List ℕ → Type 0
StackTidy depth l = Zeros 0 stack_size (node_words * depth) l

-- past the n active vertices in what the nodes below the depth carry, and everywhere in what is carried by none
abbrev pub used_in : ℕ → ℕ → ℕ → ℕ
used_in n depth p = cond (ltb p depth) n 0

abbrev pub CarriedTidy : ℕ → ℕ → List ℤ → Type 0
CarriedTidy n depth e = (p : ℕ) → p < max_nodes → Zeros (pos 0) max_vertices (used_in n depth p) (multipliers_at max_vertices e p)

pub record Tidy (s : Search) : Type 0 where
  pub graph : GraphTidy s.graph
  pub multipliers : Zeros (pos 0) max_vertices s.graph.n s.multipliers
  pub stack : StackTidy s.depth s.stack
  pub carried : CarriedTidy (active_in s) s.depth s.carried
  pub ashore : Zeros 0 max_vertices s.graph.n s.ashore
  -- past m where there is an incumbent, and everywhere where there is none
  pub best : Zeros 0 max_edges (cond (has_tour s) s.graph.m 0) s.best

-- ---- no search is open: with `Tidy`, this is the fresh record
pub record Idle (s : Search) : Type 0 where
  pub n : s.graph.n ≡ 0
  pub m : s.graph.m ≡ 0
  pub settings : s.settings ≡ no_settings
  pub upper : s.upper ≡ pos 0
  pub depth : s.depth ≡ 0
  pub best : has_tour s ≡ false
  pub count : s.count ≡ 0

-- ---- a search is open

-- document 02, C-19: "with no leg in both and every bit past leg m clear; 24 tests both"; and node p has at least p required edges
abbrev pub NodeFits : ℕ → List ℕ → ℕ → Type 0
NodeFits m l p = RowsFit m (rows_at l p) × (p ≤ requireds (marks_at m l p))

abbrev pub StackFits : ℕ → ℕ → List ℕ → Type 0
StackFits m depth l = (p : ℕ) → p < depth → NodeFits m l p

-- document 02, C-20: "A leg touching such a buoy counts as struck .. and opening piles it so"; so every node excludes it
abbrev pub touching_in : Search → Edges
touching_in s = touched (ashore (ashore_in s)) (network s.graph)

abbrev pub StackStruck : ℕ → Edges → ℕ → List ℕ → Type 0
StackStruck m c depth l = (p : ℕ) → p < depth → Off m c (marks_at m l p)

-- its multipliers are such as an opening accepts: 12 does not apply
abbrev pub CarriedFits : ℕ → ℕ → List ℤ → Type 0
CarriedFits n depth e = (p : ℕ) → p < depth → multipliers_fit (multipliers_at n e p) ≡ true

abbrev pub Bits : List ℕ → Type 0
Bits l = (i : ℕ) → i < max_edges → get_or l i 0 ≤ 1

pub record Fits (s : Search) : Type 0 where
  -- the arguments are such as an opening accepts: none of 15, 11, 12, 13, 14, 32, 35
  pub opening : fault (opening_in s) ≡ 0
  -- and lifting is stored as 0 or 1 ("A yes or no at opening", document 02, C-13)
  pub lifting : s.settings.lifting ≤ 1
  pub upper : ceiling_fits s.upper ≡ true
  pub depth : s.depth ≤ active_in s + 2
  pub stack : StackFits s.graph.m s.depth s.stack
  pub struck : StackStruck s.graph.m (touching_in s) s.depth s.stack
  pub carried : CarriedFits (active_in s) s.depth s.carried
  pub best : Bits s.best
  pub count : s.count ≤ max_count

-- ---- the flags are Booleans
pub record Flags (s : Search) : Type 0 where
  pub «open» : s.«open» ≤ 1
  pub best : s.has_best ≤ 1

-- ---- the check

abbrev pub Stands : Bool → Search → Type 0
Stands true s = Fits s
Stands false s = Idle s

pub record Canonical (s : Search) : Type 0 where
  pub flags : Flags s
  pub tidy : Tidy s
  pub stands : Stands (is_open s) s
