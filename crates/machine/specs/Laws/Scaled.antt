-- Document 02's C-17 of tours, for every q: a tour's bound at q times the costs is q times its cost, whatever the multipliers. So for q ≥ 1 a bound is
-- within q times a ceiling exactly where the cost is within the ceiling, and nothing is lost by rounding. (And an opening that is lawful at q times the
-- costs and q times the upper bound is lawful in minutes: proofs/ScaledLaws.) Assumes nothing.
use Rattle.std.specs.Prelude.{◌≡◌, refl, ◌↔◌, ℕ, ◌≤◌, ℤ, ◌≤ℤ◌}
use Rattle.std.proofs.Common.{◌∙◌}
use Rattle.lists.specs.Select.{select}
use Rattle.lists.specs.Numbers.{up_to}
use Rattle.integers.specs.Multiples.{◌times◌, times-le, sum_times}
use Rattle.graph.specs.Network.{Network}
use Rattle.tree_theory.specs.OneTree.{Edges, bound}
use Rattle.tree_theory.specs.Valid.{Valid}
use Rattle.tree_theory.specs.Scaled.{scaled_by}
use Rattle.tree_theory.specs.Scaling.{valid_scaled}
use Rattle.tours.specs.Tours.{Tour, cost}
use Rattle.tours.specs.TourTree.{bound_is_cost}
use Rattle.machine.specs.Laws.NodeTours.{tour_other}

module _ (q : ℕ) (g : Network) where
  pub tour_scaled : (t : Edges) → Tour (scaled_by q g) t ↔ Tour g t
  tour_scaled t = (
    λ o. tour_other (scaled_by q g) g t refl refl refl refl o,
    λ o. tour_other g (scaled_by q g) t refl refl refl refl o,
  )

  -- the cost of a set at q times the costs
  pub cost_scaled : (t : Edges) → cost (scaled_by q g) t ≡ q times cost g t
  unfolding cost
  cost_scaled t = sum_times q g.cost (select t (up_to g.m))

  -- THE BOUND OF A TOUR IS q TIMES ITS COST
  pub bound_is_multiple : Valid g → (d : ℕ → ℤ) (t : Edges) → Tour g t → bound (scaled_by q g) d t ≡ q times cost g t
  bound_is_multiple v d t o = bound_is_cost (scaled_by q g) (valid_scaled q g v) t ((tour_scaled t).1 o) d ∙ cost_scaled t

  module _ (some : 1 ≤ q) where
    -- WITHIN q TIMES A CEILING EXACTLY WHERE THE COST IS WITHIN THE CEILING
    pub within_tour : Valid g → (d : ℕ → ℤ) (t : Edges) → Tour g t → (ceiling : ℤ)
        → (bound (scaled_by q g) d t ≤ℤ q times ceiling) ↔ (cost g t ≤ℤ ceiling)
    within_tour v d t o ceiling = rw (bound_is_multiple v d t o) (times-le q some (cost g t) ceiling)
