-- What the values over the active vertices say, in Over's words and in no others: an allowed tour's bound is its cost. (The tree, the rulings and
-- the rest: proofs/Meaning.)
use Rattle.std.specs.Prelude.{◌≡◌, ℕ, ℤ}
use Rattle.std.proofs.Common.{◌∙◌}
use Rattle.graph.specs.Network.{Network}
use Rattle.tree_theory.specs.OneTree.{Edges}
use Rattle.tree_theory.specs.Enumeration.{Tree, no_tree, a_tree}
use Rattle.tours.specs.Tours.{cost}
use Rattle.tours.specs.TourTree.{bound_is_cost}
use Rattle.afloat.specs.Over.{Ashore, OneTreeOver, bound_over, LeastOver, TourOver}
use Rattle.afloat.specs.Reduced.{reduced, reduced_multiplier, Fit, reduced-valid}
use Rattle.afloat.specs.Trees.{bound-reduced}
use Rattle.afloat.specs.Tours.{tour_free, tour_reduced, cost-reduced}

-- what a tree is, to be right
abbrev pub RightOver : Ashore → Network → (ℕ → ℤ) → Tree → Type 0
RightOver s g d no_tree = (t : Edges) → ¬ OneTreeOver s g t
RightOver s g d (a_tree b t) = (b ≡ bound_over s g d t) × LeastOver s g d t

module _ (s : Ashore) (g : Network) (f : Fit s g) (d : ℕ → ℤ) where
  -- AN ALLOWED TOUR IS A 1-TREE, AND A TOUR'S BOUND IS ITS COST
  module _ (t : Edges) (o : TourOver s g t) where
    pub tour_over_bound : bound_over s g d t ≡ cost g t
    tour_over_bound =
        bound-reduced s g f t (tour_free s g f t o) d
        ∙ bound_is_cost (reduced s g) (reduced-valid s g f) t (tour_reduced s g f t o) (reduced_multiplier s g.n d)
        ∙ cost-reduced s g f t
