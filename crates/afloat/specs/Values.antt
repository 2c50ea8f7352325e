-- The least 1-tree, the rulings and the test for a tour over the active vertices as values, by going through all sets of edges and all orders of
-- vertices: total, plain, and computable on small networks, as Enumeration and Tours have them over all vertices. Definitions only; that they are
-- what Over says is shown in Decided.
use Rattle.std.specs.Prelude.{Bool, not, ◌&&◌, ◌||◌, List, ℕ, ◌+◌, ◌-◌, eqb, length, ℤ}
use Rattle.std.specs.Int.Signed.{lt_z}
use Rattle.lists.specs.All.{every_of, some_of}
use Rattle.lists.specs.Select.{select}
use Rattle.lists.specs.Numbers.{up_to}
use Rattle.graph.specs.Network.{Network}
use Rattle.spanning.specs.Walks.{label, relabel}
use Rattle.tree_theory.specs.OneTree.{Edges, at_one, away}
use Rattle.tree_theory.specs.Enumeration.{edge_sets, marked, alike, Tree, least_of, Ruling, ruled}
use Rattle.tours.specs.Orders.{distinct, words}
use Rattle.tours.specs.Tours.{is_trip}
use Rattle.afloat.specs.Over.{Ashore, active_count, others_over, mark_over, multiplier_over, bound_over}

-- ---- 1-trees

unfoldable pub is_one_tree_over : Ashore → Network → Edges → Bool
unfolding at_one away up_to label every_of relabel alike active_count others_over
is_one_tree_over s g t =
    eqb (length (at_one g t)) 2
    && eqb (2 + length (away g t)) (active_count s g.n)
    && every_of (λ k. marked (mark_over s g k) (t k)) (up_to g.m)
    && alike (label g.a g.b (away g t)) (others_over s g)

unfoldable pub one_trees_over : Ashore → Network → List Edges
unfolding edge_sets is_one_tree_over select
one_trees_over s g = select (is_one_tree_over s g) (edge_sets g.m)

-- the least of them, or none
unfoldable pub tree_over : Ashore → Network → (ℕ → ℤ) → Tree
unfolding least_of one_trees_over
tree_over s g d = least_of g (multiplier_over s d) (one_trees_over s g)

-- ---- rulings

unfoldable pub is_barred_over : Ashore → Network → (ℕ → ℤ) → ℤ → ℕ → Bool
unfolding one_trees_over every_of bound_over
is_barred_over s g d ceiling e = every_of (λ t. not (t e) || lt_z ceiling (bound_over s g d t)) (one_trees_over s g)

unfoldable pub is_forced_over : Ashore → Network → (ℕ → ℤ) → ℤ → ℕ → Bool
unfolding one_trees_over every_of bound_over
is_forced_over s g d ceiling e = every_of (λ t. t e || lt_z ceiling (bound_over s g d t)) (one_trees_over s g)

-- document 01's ruling, by the mark that counts
unfoldable pub ruling_over : Ashore → Network → (ℕ → ℤ) → ℤ → ℕ → Ruling
unfolding is_barred_over is_forced_over
ruling_over s g d ceiling k = ruled (mark_over s g k) (is_barred_over s g d ceiling k) (is_forced_over s g d ceiling k)

-- ---- tours

-- every order of the other active vertices is tried
unfoldable pub is_tour_over : Ashore → Network → Edges → Bool
unfolding select up_to some_of words others_over active_count distinct is_trip
is_tour_over s g t =
    eqb (length (select t (up_to g.m))) (active_count s g.n)
    && some_of (λ vs. distinct vs && is_trip g t 1 vs 1) (words (active_count s g.n - 1) (others_over s g))
