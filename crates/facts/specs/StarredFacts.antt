-- The starred facts of document 01, 'A four-buoy sea', in its order: each a theorem, by computation. Trees and rulings are those that the
-- promises of the tree call and the rule call name; searches are the machine's answers to a list of calls. At the end, one of the searches with
-- lifting, and some with a buoy ashore.
use Rattle.std.specs.Prelude.{◌≡◌, refl, List, [], ◌∷◌, ◌++◌, map, ℕ, ◌-◌, true, length, replicate, ℤ, pos, negsuc}
use Rattle.lists.specs.Select.{select}
use Rattle.lists.specs.Rows.{row}
use Rattle.integers.specs.Range.{within}
use Rattle.graph.specs.declared.Graph.{Graph}
use Rattle.graph.specs.Limits.{max_edges}
use Rattle.graph.specs.Network.{mark_of, network}
use Rattle.graph.specs.Valid.{valid, edges_ok, edge_ok, ends_ok, pair_met}
use Rattle.tree_theory.specs.Inputs.{multipliers_fit, ceiling_fits, denominator_fault, denominator_fits}
use Rattle.tree_theory.specs.Enumeration.{edge_sets, least_tree, ruling}
use Rattle.onetree.specs.Answers.{Reply, bounded, tree_reply, tree_leaves, rule_reply, rule_leaves}
use Rattle.onetree.specs.Answers as tree
use Rattle.tours.specs.Tours.{cost, is_tour}
use Rattle.thinning.specs.Ranks.{rank, nth}
use Rattle.afloat.specs.Over.{ashore, ashore_fault}
use Rattle.machine.specs.declared.Settings.{Settings}
use Rattle.machine.specs.Machine.{no_search, gained}
use Rattle.machine.specs.Calls.{Answer, opens, run, tell, refused, accepted, runs, tells, none, best, answers}

-- ---- graph values, with arrays of 190 places as the calls have them: what is given of an array, and zero past it

unfoldable pub filled : {A : Type 0} → A → List A → List A
filled z given = given ++ replicate (max_edges - length given) z

unfoldable pub graph : ℕ → ℕ → List ℕ → List ℕ → List ℤ → List ℕ → Graph
unfolding filled
graph n m a b cost mark =
    record { n = n; m = m; a = filled 0 a; b = filled 0 b; cost = filled (pos 0) cost; mark = filled 0 mark }

-- "Legs, costs: 1: 1–2, 4. 2: 1–3, 3. 3: 1–4, 5. 4: 2–3, 2. 5: 2–4, 6. 6: 3–4, 1. All free."
unfoldable pub four : Graph
unfolding graph
four =
    graph 4 6 (1 ∷ 1 ∷ 1 ∷ 2 ∷ 2 ∷ 3 ∷ []) (2 ∷ 3 ∷ 4 ∷ 3 ∷ 4 ∷ 4 ∷ []) (pos 4 ∷ pos 3 ∷ pos 5 ∷ pos 2 ∷ pos 6 ∷ pos 1 ∷ [])
    (0 ∷ 0 ∷ 0 ∷ 0 ∷ 0 ∷ 0 ∷ [])

-- "Zero dues"
unfoldable pub zeros₃ : List ℤ
zeros₃ = pos 0 ∷ pos 0 ∷ pos 0 ∷ []

unfoldable pub zeros₄ : List ℤ
unfolding zeros₃
zeros₄ = pos 0 ∷ zeros₃

-- ---- what the calls give: a reply and the lent list after it, which held a 9 for each edge

unfoldable pub nines : Graph → List ℕ
unfolding row
nines g = row g.m (λ k. 9)

unfoldable pub tree_call : Graph → List ℤ → Reply × List ℕ
unfolding tree_reply tree_leaves nines valid edges_ok edge_ok ends_ok pair_met within multipliers_fit denominator_fault denominator_fits least_tree network mark_of
tree_call g d = (tree_reply g d 1 g.m, tree_leaves g d 1 (nines g))

unfoldable pub rule_call : Graph → List ℤ → ℤ → Reply × List ℕ
unfolding rule_reply rule_leaves nines valid edges_ok edge_ok ends_ok pair_met within multipliers_fit ceiling_fits denominator_fault denominator_fits least_tree ruling network mark_of
rule_call g d ceiling = (rule_reply g d ceiling 1 g.m, rule_leaves g d ceiling 1 (nines g))

-- opening with no sweeps, a run, tell
unfoldable pub calls_with : ℕ → List ℕ → Graph → List ℤ → ℤ → List Answer
unfolding answers valid edges_ok edge_ok ends_ok pair_met within multipliers_fit ceiling_fits denominator_fault denominator_fits network mark_of ashore ashore_fault rank nth
calls_with lifting inactive g d ceiling =
    let settings : Settings = record { ceiling = ceiling; sweeps = 0; step = 0; denominator = 1; lifting = lifting } in
    answers no_search (opens (record { graph = g; multipliers = d; ashore = inactive; settings = settings }) ∷ run 100 ∷ tell ∷ [])

-- "with none ashore"
unfoldable pub search_calls : Graph → List ℤ → ℤ → List Answer
unfolding calls_with
search_calls g = calls_with 0 (replicate g.n 0) g

-- ---- the four-buoy sea

-- "Rounds cost 12, 14, 16.": the costs of all tours, in the order of the enumeration
pub tour_costs : map (cost (network four)) (select (is_tour (network four)) (edge_sets 6)) ≡ pos 16 ∷ pos 12 ∷ pos 14 ∷ []
unfolding cost network four select is_tour edge_sets
tour_costs = refl

-- "Zero dues: legs 1, 2, 4, 6, bound 10."
pub zero_multipliers_lem : tree_call four zeros₄ ≡ (bounded (pos 10), 1 ∷ 1 ∷ 0 ∷ 1 ∷ 0 ∷ 1 ∷ [])
unfolding tree_call four zeros₄
zero_multipliers_lem = refl

-- "d(3) = 1, d(4) = −1: same legs, bound 12."
pub other_multipliers : tree_call four (pos 0 ∷ pos 0 ∷ pos 1 ∷ negsuc 0 ∷ []) ≡ (bounded (pos 12), 1 ∷ 1 ∷ 0 ∷ 1 ∷ 0 ∷ 1 ∷ [])
unfolding tree_call four
other_multipliers = refl

-- "Ceiling 14 forces 6 only."
pub ceiling_14 : rule_call four zeros₄ (pos 14) ≡ (bounded (pos 10), 0 ∷ 0 ∷ 0 ∷ 0 ∷ 0 ∷ 1 ∷ [])
unfolding rule_call four zeros₄
ceiling_14 = refl

-- "Ceiling 10 bars 3 and 5, forces the rest."
pub ceiling_10 : rule_call four zeros₄ (pos 10) ≡ (bounded (pos 10), 1 ∷ 1 ∷ 2 ∷ 1 ∷ 2 ∷ 1 ∷ [])
unfolding rule_call four zeros₄
ceiling_10 = refl

-- "Ceiling 9 dead."
pub ceiling_9 : rule_call four zeros₄ (pos 9) ≡ (tree.none, nines four)
unfolding rule_call four zeros₄ nines
ceiling_9 = refl

-- "Hunt, zero dues, no sweeps, ceiling 12: cost 12, 5 nodes."
pub search_12 : search_calls four zeros₄ (pos 12) ≡ accepted ∷ runs true 5 ∷ tells (best (pos 12)) 5 ∷ []
unfolding search_calls four zeros₄
search_12 = refl

-- "Ceiling 11: none, 3 nodes."
pub search_11 : search_calls four zeros₄ (pos 11) ≡ accepted ∷ runs true 3 ∷ tells none 3 ∷ []
unfolding search_calls four zeros₄
search_11 = refl

-- ---- three vertices

unfoldable pub bare : Graph
unfolding graph
bare = graph 3 0 [] [] [] []

-- "Three buoys, no legs: no tree;"
pub no_edges_tree : tree_call bare zeros₃ ≡ (tree.none, [])
unfolding tree_call bare zeros₃
no_edges_tree = refl

-- "hunt says none, 1 node."
pub no_edges_search : search_calls bare zeros₃ (pos 0) ≡ accepted ∷ runs true 1 ∷ tells none 1 ∷ []
unfolding search_calls bare zeros₃
no_edges_search = refl

unfoldable pub triangle : Graph
unfolding graph
triangle = graph 3 3 (1 ∷ 1 ∷ 2 ∷ []) (2 ∷ 3 ∷ 3 ∷ []) (pos 1 ∷ pos 1 ∷ pos 1 ∷ []) (0 ∷ 0 ∷ 0 ∷ [])

-- "Three legs of cost 1, ceiling 3: cost 3, 1 node;"
pub triangle_3 : search_calls triangle zeros₃ (pos 3) ≡ accepted ∷ runs true 1 ∷ tells (best (pos 3)) 1 ∷ []
unfolding search_calls triangle zeros₃
triangle_3 = refl

-- "ceiling 2: none."
pub triangle_2 : search_calls triangle zeros₃ (pos 2) ≡ accepted ∷ runs true 1 ∷ tells none 1 ∷ []
unfolding search_calls triangle zeros₃
triangle_2 = refl

-- ---- required edges, and the range of a multiplier

unfoldable pub star : Graph
unfolding four filled
star = record { n = 4; m = 6; a = four.a; b = four.b; cost = four.cost; mark = filled 0 (1 ∷ 1 ∷ 1 ∷ 0 ∷ 0 ∷ 0 ∷ []) }

-- "Three required legs at buoy 1: no tree."
pub three_required : tree_call star zeros₄ ≡ (tree.none, nines star)
unfolding tree_call star zeros₄ nines
three_required = refl

-- vertex 2 touches three of its four edges
unfoldable pub spread : Graph
unfolding graph
spread = graph 4 4 (1 ∷ 1 ∷ 2 ∷ 2 ∷ []) (2 ∷ 3 ∷ 3 ∷ 4 ∷ []) (pos 0 ∷ pos 0 ∷ pos 0 ∷ pos 0 ∷ []) (0 ∷ 0 ∷ 0 ∷ 0 ∷ [])

-- "Due 999,999, step 10, three legs: 1,000,000."
pub held_to_range : gained (network spread) 10 (λ k. true) (pos 0 ∷ pos 999999 ∷ pos 0 ∷ pos 0 ∷ [])
    ≡ pos 0 ∷ pos 1000000 ∷ pos 0 ∷ negsuc 9 ∷ []
unfolding gained network spread
held_to_range = refl

-- ---- document 02, C-13: "A yes or no at opening turns lifting on"

unfoldable pub lifted_calls : Graph → List ℤ → ℤ → List Answer
unfolding calls_with
lifted_calls g = calls_with 1 (replicate g.n 0) g

-- the four-buoy sea at ceiling 12: the same verdict and cost after 3 nodes in place of 5
pub lifted_12 : lifted_calls four zeros₄ (pos 12) ≡ accepted ∷ runs true 3 ∷ tells (best (pos 12)) 3 ∷ []
unfolding lifted_calls four zeros₄
lifted_12 = refl

-- ---- document 02, C-20: "A round now visits every buoy that is afloat": the four-buoy sea with buoy 4 ashore, d(4) = 7

unfoldable pub calls_ashore : List ℕ → List ℤ → ℤ → List Answer
unfolding calls_with four
calls_ashore l d = calls_with 0 l four d

-- legs 1, 2 and 4 are the only round, of cost 9
pub ashore_9 : calls_ashore (0 ∷ 0 ∷ 0 ∷ 1 ∷ []) (pos 0 ∷ pos 0 ∷ pos 0 ∷ pos 7 ∷ []) (pos 9)
    ≡ accepted ∷ runs true 1 ∷ tells (best (pos 9)) 1 ∷ []
unfolding calls_ashore
ashore_9 = refl

pub ashore_8 : calls_ashore (0 ∷ 0 ∷ 0 ∷ 1 ∷ []) (pos 0 ∷ pos 0 ∷ pos 0 ∷ pos 7 ∷ []) (pos 8) ≡ accepted ∷ runs true 1 ∷ tells none 1 ∷ []
unfolding calls_ashore
ashore_8 = refl

-- "A leg touching such a buoy counts as struck, whatever its mark": leg 3 required
unfoldable pub third_required : Graph
unfolding four filled
third_required = record { n = 4; m = 6; a = four.a; b = four.b; cost = four.cost; mark = filled 0 (0 ∷ 0 ∷ 1 ∷ 0 ∷ 0 ∷ 0 ∷ []) }

pub ashore_required : calls_with 0 (0 ∷ 0 ∷ 0 ∷ 1 ∷ []) third_required zeros₄ (pos 9) ≡ accepted ∷ runs true 1 ∷ tells (best (pos 9)) 1 ∷ []
unfolding calls_with third_required zeros₄
ashore_required = refl

-- "35 when a byte is above 1, buoy 1 is ashore, or fewer than three are afloat": then no search is open ("20")
pub above_one : calls_ashore (0 ∷ 0 ∷ 0 ∷ 2 ∷ []) zeros₄ (pos 9) ≡ refused 35 0 ∷ refused 20 0 ∷ refused 20 0 ∷ []
unfolding calls_ashore zeros₄
above_one = refl

pub one_ashore : calls_ashore (1 ∷ 0 ∷ 0 ∷ 0 ∷ []) zeros₄ (pos 9) ≡ refused 35 0 ∷ refused 20 0 ∷ refused 20 0 ∷ []
unfolding calls_ashore zeros₄
one_ashore = refl

pub two_afloat : calls_ashore (0 ∷ 0 ∷ 1 ∷ 1 ∷ []) zeros₄ (pos 9) ≡ refused 35 0 ∷ refused 20 0 ∷ refused 20 0 ∷ []
unfolding calls_ashore zeros₄
two_afloat = refl

-- "The list's length comes under 11", and "12 judges the dues as sent"
pub three_bytes : calls_ashore (0 ∷ 0 ∷ 0 ∷ []) zeros₄ (pos 9) ≡ refused 11 0 ∷ refused 20 0 ∷ refused 20 0 ∷ []
unfolding calls_ashore zeros₄
three_bytes = refl

pub multipliers_as_sent : calls_ashore (0 ∷ 0 ∷ 0 ∷ 1 ∷ []) (pos 0 ∷ pos 0 ∷ pos 0 ∷ pos 1000001 ∷ []) (pos 9)
    ≡ refused 12 0 ∷ refused 20 0 ∷ refused 20 0 ∷ []
unfolding calls_ashore
multipliers_as_sent = refl
