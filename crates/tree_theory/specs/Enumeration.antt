-- The least 1-tree and the rulings as values, by going through all sets of edges: total, plain, and computable on small networks. The
-- contracts of the calls and the machine cite these. That they are what the definitions say is shown in Decide, LeastTree and Rulings.
use Rattle.std.specs.Prelude.{Bool, true, false, not, ◌&&◌, ◌||◌, List, [], ◌∷◌, ◌++◌, map, ℕ, zero, suc, ◌+◌, eqb, length, ℤ}
use Rattle.std.specs.Int.Signed.{lt_z}
use Rattle.lists.specs.All.{every_of}
use Rattle.lists.specs.Select.{select}
use Rattle.lists.specs.Numbers.{up_to}
use Rattle.lists.specs.Sets.{◌⊕◌}
use Rattle.graph.specs.Network.{Network, Mark, free, required, excluded}
use Rattle.spanning.specs.Walks.{label, relabel}
use Rattle.tree_theory.specs.OneTree.{Edges, others, at_one, away, bound}

-- all sets of edges among 1 to m, in the order of `lacks_first`
unfoldable pub edge_sets : ℕ → List Edges
unfolding ◌⊕◌
edge_sets zero = (λ k. false) ∷ []
edge_sets (suc m) = let r = edge_sets m in r ++ map (λ t. t ⊕ suc m) r

-- ---- 1-trees

-- whether an edge of this mark may be in, or out
abbrev pub marked : Mark → Bool → Bool
marked free x = true
marked required x = x
marked excluded x = not x

-- the listed vertices have one label
unfoldable pub alike : (ℕ → ℕ) → List ℕ → Bool
unfolding every_of
alike L [] = true
alike L (v ∷ vs) = every_of (λ u. eqb (L u) (L v)) vs

unfoldable pub is_one_tree : Network → Edges → Bool
unfolding at_one away others up_to label every_of relabel alike
is_one_tree g t =
    eqb (length (at_one g t)) 2
    && eqb (2 + length (away g t)) g.n
    && every_of (λ k. marked (g.mark k) (t k)) (up_to g.m)
    && alike (label g.a g.b (away g t)) (others g)

unfoldable pub one_trees : Network → List Edges
unfolding edge_sets is_one_tree select
one_trees g = select (is_one_tree g) (edge_sets g.m)

-- ---- the least

-- of best and the listed, the first of the least bound
unfoldable pub min_from : Network → (ℕ → ℤ) → Edges → List Edges → Edges
unfolding bound
min_from g d best [] = best
min_from g d best (t ∷ ts) =
    elim (lt_z (bound g d t) (bound g d best)) [ true ↦ min_from g d t ts | false ↦ min_from g d best ts ]

-- "The tree call gives the 1-tree of least bound"; "'No tree' is given exactly when none exists."
pub data Tree : Type 0 where
  no_tree : Tree
  a_tree : ℤ → Edges → Tree

unfoldable pub least_of : Network → (ℕ → ℤ) → List Edges → Tree
unfolding min_from bound
least_of g d [] = no_tree
least_of g d (t ∷ ts) = let r : Edges = min_from g d t ts in a_tree (bound g d r) r

unfoldable pub least_tree : Network → (ℕ → ℤ) → Tree
unfolding least_of one_trees
least_tree g d = least_of g d (one_trees g)

-- ---- rulings

unfoldable pub barred_b : Network → (ℕ → ℤ) → ℤ → ℕ → Bool
unfolding one_trees every_of bound
barred_b g d ceiling e = every_of (λ t. not (t e) || lt_z ceiling (bound g d t)) (one_trees g)

unfoldable pub forced_b : Network → (ℕ → ℤ) → ℤ → ℕ → Bool
unfolding one_trees every_of bound
forced_b g d ceiling e = every_of (λ t. t e || lt_z ceiling (bound g d t)) (one_trees g)

-- "one ruling per leg: 0 keep, 1 force, 2 bar, 3 already required, 4 already struck"
pub data Ruling : Type 0 where
  keeps forces bars was_required was_excluded : Ruling

-- an edge that is both barred and forced is barred; it comes up only where no 1-tree is within the ceiling, and then no ruling is given
abbrev pub ruled : Mark → Bool → Bool → Ruling
ruled required barred forced = was_required
ruled excluded barred forced = was_excluded
ruled free true forced = bars
ruled free false true = forces
ruled free false false = keeps

unfoldable pub ruling : Network → (ℕ → ℤ) → ℤ → ℕ → Ruling
unfolding barred_b forced_b
ruling g d ceiling k = ruled (g.mark k) (barred_b g d ceiling k) (forced_b g d ceiling k)
