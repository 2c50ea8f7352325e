-- Document 01's 'The hunt', read with C-23, 'The same round for everyone', C-13, 'Lifted dues for a stubborn leg', and C-20, 'Buoys hauled out': the
-- state, the opening of a node with its passes, and the run loop, in their words and order. Trees are those of tree_theory's definitions, which go
-- through all 1-trees, and rulings those of lifting's, which rest on them. Definitions only.
-- (Our words: search for hunt, stack for pile, incumbent for best round, multipliers for dues, upper bound for the present ceiling U,
-- budget for allowance.)
use Rattle.std.specs.Prelude.{Bool, true, false, not, cond, ◌&&◌, List, [], ◌∷◌, ℕ, zero, suc, ◌+◌, eqb, leb, ltb}
use Rattle.std.specs.Prelude.{length, get_or, set, ℤ, pos, ◌+ℤ◌, ◌-ℤ◌, ◌*ℤ◌}
use Rattle.std.specs.Int.Signed.{lt_z}
use Rattle.lists.specs.Bools.{bit}
use Rattle.lists.specs.Rows.{row}
use Rattle.integers.specs.Range.{clamp}
use Rattle.integers.specs.Multiples.{◌times◌}
use Rattle.graph.specs.declared.Graph.{Graph}
use Rattle.graph.specs.Limits.{max_edges, max_multiplier, max_count}
use Rattle.graph.specs.Network.{Network, Mark, free, required, excluded, place, network}
use Rattle.tree_theory.specs.OneTree.{Edges, lacks_first}
use Rattle.tree_theory.specs.Valid.{is_free}
use Rattle.tree_theory.specs.Inputs.{multiplier}
use Rattle.tree_theory.specs.Scaled.{scaled_by}
use Rattle.tree_theory.specs.Enumeration.{Tree, no_tree, a_tree, least_tree, Ruling, keeps, forces, bars, was_required, was_excluded}
use Rattle.tours.specs.Tours.{degree, cost, is_tour}
use Rattle.lifting.specs.Lifted.{ruling_with}
use Rattle.afloat.specs.Over.{ashore}
use Rattle.afloat.specs.Reduced.{reduced}
use Rattle.afloat.specs.Lists.{reduced_list}
use Rattle.machine.specs.declared.Settings.{Settings}
use Rattle.machine.specs.Outcomes.{Outcome, closes, finds, splits, Incumbent, no_tour, next_stack, next_incumbent, next_upper}

-- ---- a node

-- "nodes (each a mark per leg)"
abbrev pub Marks : Type 0
Marks = List Mark

-- document 02, C-16: "A piled node now carries the dues that its parent had after its last pass, and opens with them"
pub record Node : Type 0 where
  pub marks : Marks
  pub multipliers : List ℤ

abbrev pub node_of : List ℤ → Marks → Node
node_of d x = record { marks = x; multipliers = d }

-- the network with a node's marks in place of its own
unfoldable pub with_marks : Network → Marks → Network
with_marks g x = record { n = g.n; m = g.m; a = g.a; b = g.b; cost = g.cost; mark = λ k. get_or (free ∷ x) k free }

-- "the chart's marks"
unfoldable pub marks_of : Network → Marks
unfolding row
marks_of g = row g.m g.mark

-- the number of a node's free edges
unfoldable pub frees : Marks → ℕ
frees [] = 0
frees (x ∷ xs) = bit (is_free x) + frees xs

-- ---- a pass

-- an edge's mark once its ruling is applied
abbrev pub mark_by : Ruling → Mark
mark_by keeps = free
mark_by forces = required
mark_by bars = excluded
mark_by was_required = required
mark_by was_excluded = excluded

-- "the rulings under U are applied together"; document 02, C-13: "Lifted rulings are applied with the pass's own and dues go back afterwards": d are
-- those of the pass, and no other multipliers leave the rulings
unfoldable pub applied : Bool → Network → (ℕ → ℤ) → ℤ → Marks
unfolding row ruling_with
applied lifting g d upper = row g.m (λ k. mark_by (ruling_with lifting g d upper k))

pub data Pass : Type 0 where
  -- the node closes
  shut : Pass
  -- the tree is a tour
  found : Edges → Pass
  -- the tree is none: the tree, and the marks after the rulings
  unclosed : Edges → Marks → Pass

-- "no tree, or bound above U: the node closes; the tree is a round: ..; otherwise the rulings under U are applied together"; with lifting or without,
-- as "a yes or no at opening" says (document 02, C-13)
unfoldable pub pass_by : Bool → Network → (ℕ → ℤ) → ℤ → Tree → Pass
unfolding is_tour applied
pass_by lifting g d upper no_tree = shut
pass_by lifting g d upper (a_tree bound t) =
    cond (lt_z upper bound) shut
    (cond (is_tour g t) (found t)
    (unclosed t (applied lifting g d upper)))

unfoldable pub pass : Bool → Network → (ℕ → ℤ) → ℤ → Pass
unfolding pass_by least_tree
pass lifting g d upper = pass_by lifting g d upper (least_tree g d)

-- "each d(i), i ≥ 2, gains step × (g − 2), g being the number of the tree's legs that touch buoy i, and is held to its range"
unfoldable pub gained : Network → ℕ → Edges → List ℤ → List ℤ
unfolding row multiplier clamp degree
gained g step t d =
    row g.n (λ v.
    cond (leb v 1) (multiplier d v)
    (clamp max_multiplier (multiplier d v +ℤ (pos step *ℤ (pos (degree g t v) -ℤ pos 2)))))

-- ---- the opening of a node

-- a tour is kept as a Boolean for each edge
abbrev pub Opened : Type 0
Opened = Outcome Node (List Bool)

-- the place of the lowest-numbered free edge, from 0; the number of edges where none is free
unfoldable pub first_free : Marks → ℕ
first_free [] = 0
first_free (free ∷ xs) = 0
first_free (required ∷ xs) = suc (first_free xs)
first_free (excluded ∷ xs) = suc (first_free xs)

-- "an unclosed node takes its lowest-numbered free leg and piles two nodes with the marks it now has: first that leg struck, then, on
-- top, that leg required. With no free leg it closes." Document 02, C-16: "Both branches see the same parent dues": d are those of the last
-- pass
unfoldable pub branch : List ℤ → Marks → Opened
unfolding first_free
branch d x =
    let k : ℕ = first_free x in
    cond (ltb k (length x)) (splits (node_of d (set x k excluded)) (node_of d (set x k required))) closes

-- what a pass comes to, where `otherwise` says how an unclosed node goes on
abbrev pub concluded : ℕ → Pass → (Edges → Marks → Opened) → Opened
concluded m shut otherwise = closes
concluded m (found t) otherwise = finds (row m t)
concluded m (unclosed t x) otherwise = otherwise t x

-- the passes of a node with the marks x, from the multipliers d on; `left` passes follow the first of them. After the last no multiplier
-- gains: its halves get those that it used. All lift or none does (document 02, C-13)
unfoldable pub passes : Bool → Network → ℕ → ℤ → ℕ → List ℤ → Marks → Opened
unfolding with_marks pass multiplier row branch gained
passes lifting g step upper zero d x =
    concluded g.m (pass lifting (with_marks g x) (multiplier d) upper) (λ t y. branch d y)
passes lifting g step upper (suc left) d x =
    concluded g.m (pass lifting (with_marks g x) (multiplier d) upper)
    (λ t y. passes lifting g step upper left (gained g step t d) y)

-- ---- the state

-- "Opening takes a chart, dues, a ceiling, sweeps (0 to 15) and a step (0 to 10,000)."; document 02, C-17: "Opening .. take[s] a denominator q"; C-13:
-- "A yes or no at opening turns lifting on": the last five are the settings. C-20: "Tree, rule, preview and opening take a list of n bytes, 1 for
-- ashore, 0 for afloat"
pub record Opening : Type 0 where
  pub graph : Graph
  pub multipliers : List ℤ
  pub ashore : List ℕ
  pub settings : Settings

abbrev pub opening_of : Graph → List ℤ → List ℕ → Settings → Opening
opening_of g d l t = record { graph = g; multipliers = d; ashore = l; settings = t }

-- document 02, C-20: "rounds and 1-trees are over the afloat buoys, with as many legs as there are afloat"; "A leg touching such a buoy counts as
-- struck, whatever its mark": the network of the active vertices, in their order, whose edges have the numbers that they have in the graph
abbrev pub active_network : Opening → Network
active_network o = reduced (ashore o.ashore) (network o.graph)

-- "the buoy's due counts as 0 and no pass changes it": so a node carries the multipliers of the active vertices alone
abbrev pub active_multipliers : Opening → List ℤ
active_multipliers o = reduced_list (ashore o.ashore) o.graph.n o.multipliers

-- document 02, C-13: "A yes or no at opening": 0 says no, and every other number yes
abbrev pub lifts : Settings → Bool
lifts s = not (eqb s.lifting 0)

-- settings without what counts for nothing: of lifting 0 for no, 1 for yes
unfoldable pub tidy : Settings → Settings
tidy s = record { ceiling = s.ceiling; sweeps = s.sweeps; step = s.step; denominator = s.denominator; lifting = bit (lifts s) }

-- a graph without what counts for nothing: "places past m count for nothing"
unfoldable pub trimmed : Graph → Graph
unfolding row place
trimmed g =
    record {
      n = g.n;
      m = g.m;
      a = row max_edges (place 0 g.m g.a);
      b = row max_edges (place 0 g.m g.b);
      cost = row max_edges (place (pos 0) g.m g.cost);
      mark = row max_edges (place 0 g.m g.mark);
    }

-- "the arguments of the accepted opening", as the state holds them
unfoldable pub held : Opening → Opening
unfolding trimmed tidy
held o = record { graph = trimmed o.graph; multipliers = o.multipliers; ashore = o.ashore; settings = tidy o.settings }

-- "the arguments of the accepted opening with the present ceiling U, a pile of waiting nodes, the best round or none, and a count of
-- nodes opened"; the stack's top stands first
pub record Progress : Type 0 where
  pub opening : Opening
  pub upper : ℤ
  pub stack : List Node
  pub incumbent : Incumbent (List Bool)
  pub count : ℕ

-- "its state is 'no hunt' .. or else .."
pub data State : Type 0 where
  no_search : State
  searching : Progress → State

-- "Opening piles one node, the chart's marks; count 0, no best, U the ceiling." Document 02, C-16: "the first node still has the opening
-- dues"; C-20: a leg touching a buoy ashore "counts as struck .. and opening piles it so"
unfoldable pub begin : Opening → Progress
unfolding marks_of network reduced_list
begin o =
    record {
      opening = o;
      upper = o.settings.ceiling;
      stack = node_of (active_multipliers o) (marks_of (active_network o)) ∷ [];
      incumbent = no_tour;
      count = 0;
    }

-- ---- the run

-- the edges of a kept tour
unfoldable pub edges_of : List Bool → Edges
edges_of r k = get_or (false ∷ r) k false

-- "the sum of the best round's leg costs"
unfoldable pub cost_of : Network → List Bool → ℤ
unfolding cost edges_of
cost_of g r = cost g (edges_of r)

-- document 02, C-23: "On finding a round the ceiling becomes its cost and not one less"
unfoldable pub lowered : Network → List Bool → ℤ
unfolding cost_of
lowered g r = cost_of g r

-- whether a found tour f takes the place of the incumbent b: where it costs less, and "a later round of that cost replaces the best if it
-- comes first", which is "of two, the one that lacks the highest-numbered leg in which they differ"
unfoldable pub replaces : Network → List Bool → List Bool → Bool
unfolding cost_of lacks_first edges_of
replaces g f b =
    cond (lt_z (cost_of g f) (cost_of g b)) true
    (cond (lt_z (cost_of g b) (cost_of g f)) false
    (lacks_first g.m (edges_of f) (edges_of b)))

-- the one that is kept of the incumbent b and a found tour f
unfoldable pub better : Network → List Bool → List Bool → List Bool
unfolding replaces
better g b f = cond (replaces g f b) f b

-- "then passes 0 to 'sweeps'", from the node's own multipliers on (document 02, C-16; they were the opening ones). C-17: "The charged cost becomes
-- q × cost plus the two dues, the bound is scaled likewise, and it is compared with q × ceiling", here with q × U. C-13: lifting, where the opening
-- says yes, is for every pass: "The machine in document 01 is read with this change."
unfoldable pub opened_on : Network → Settings → ℤ → Node → Opened
unfolding passes
opened_on g s upper x =
    let q = s.denominator in passes (lifts s) (scaled_by q g) s.step (q times upper) s.sweeps x.multipliers x.marks

-- over the active vertices (C-20)
unfoldable pub open_node : Opening → ℤ → Node → Opened
unfolding network opened_on
open_node o upper x = opened_on (active_network o) o.settings upper x

-- what the opening of the top node makes of a search; rest are the nodes below it
unfoldable pub settled : Progress → List Node → Opened → Progress
unfolding lowered better network
settled s rest out =
    record {
      opening = s.opening;
      upper = next_upper (lowered (active_network s.opening)) s.upper out;
      stack = next_stack rest out;
      incumbent = next_incumbent (better (active_network s.opening)) s.incumbent out;
      count = suc s.count;
    }

-- "it opens the top node: count + 1, .."
unfoldable pub open_top : Progress → List Node → Progress
unfolding settled open_node
open_top s [] = s
open_top s (x ∷ rest) = settled s rest (open_node s.opening s.upper x)

abbrev pub is_empty : List Node → Bool
is_empty [] = true
is_empty (x ∷ xs) = false

-- "Finished means an empty pile."
abbrev pub finished : Progress → Bool
finished s = is_empty s.stack

-- "While the pile is not empty, allowance is left and the count is below 2^63 − 1, it opens the top node: .. allowance − 1"
unfoldable pub ran : ℕ → Progress → Progress
unfolding open_top
ran zero s = s
ran (suc budget) s =
    elim (not (finished s) && ltb s.count max_count) [ true ↦ ran budget (open_top s s.stack) | false ↦ s ]
