-- The least 1-tree and the rulings of the reduced network without edges that are excluded in it are those over the active vertices.
use Rattle.std.specs.Prelude.{◌≡◌, false, ℕ, ℤ}
use Rattle.std.proofs.Common.{sym, ◌∙◌, subst}
use Rattle.lists.specs.Members.{◌∈◌}
use Rattle.lists.specs.Numbers.{up_to}
use Rattle.graph.specs.Network.{Network}
use Rattle.tree_theory.specs.OneTree.{Edges, Least}
use Rattle.tree_theory.specs.Enumeration.{least_tree, was_excluded, ruling}
use Rattle.tree_theory.specs.Rulings.{rules_excluded}
use Rattle.thinning.specs.Ranks.{rank, nth}
use Rattle.thinning.specs.Thinned.{spread, RestExcluded, Spread, spread_least, least-thin}
use Rattle.thinning.specs.Rulings.{ruling-thin}
use Rattle.afloat.specs.Over.{Ashore, LeastOver}
use Rattle.afloat.specs.Reduced.{reduced, reduced_multiplier, Fit}
use Rattle.afloat.proofs.Trees.{least_iff}
use Rattle.afloat.specs.Values.{tree_over, ruling_over}
use Rattle.afloat.proofs.Decided.{tree-reduced, ruling-reduced}
use Rattle.afloat.specs.Compact.{Keeping, compact, old}

module _ (s : Ashore) (g : Network) (f : Fit s g) (c : Edges) (keeping : Keeping s g c) where
  rest_excluded : RestExcluded c (reduced s g)
  rest_excluded k i e = keeping.rest k i e

  module _ (j : ℕ) (i : j ∈ up_to (rank c g.m)) where
    -- THE RULING OF A KEPT EDGE
    pub compact-ruling : (d : ℕ → ℤ) (ceiling : ℤ)
        → ruling_over s g d ceiling (nth c g.m j) ≡ ruling (compact s c g) (reduced_multiplier s g.n d) ceiling j
    compact-ruling d ceiling =
        ruling-reduced s g f d ceiling (old s g f c keeping j i)
        ∙ ruling-thin c (reduced s g) rest_excluded (reduced_multiplier s g.n d) ceiling j i

  -- the ruling of any other
  pub compact_rest : (k : ℕ) → k ∈ up_to g.m → c k ≡ false → (d : ℕ → ℤ) (ceiling : ℤ) → ruling_over s g d ceiling k ≡ was_excluded
  compact_rest k i e d ceiling =
      ruling-reduced s g f d ceiling k
      ∙ rules_excluded (reduced s g) (reduced_multiplier s g.n d) ceiling k i (keeping.rest k i e)

  module _ (d : ℕ → ℤ) where
    abbrev δ : ℕ → ℤ
    δ = reduced_multiplier s g.n d

    -- THE LEAST 1-TREE
    pub compact_least : (r : Edges) → Least (compact s c g) δ r → LeastOver s g d (spread c r)
    compact_least r l = (least_iff s g f d (spread c r)).1 (spread_least c (reduced s g) rest_excluded r δ l)

    -- THE TREE
    pub compact-tree : Spread c g.m (least_tree (compact s c g) δ) (tree_over s g d)
    compact-tree =
        subst (Spread c g.m (least_tree (compact s c g) δ)) (sym (tree-reduced s g f d))
        (least-thin c (reduced s g) rest_excluded δ)
