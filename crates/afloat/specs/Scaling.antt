-- With C-17's denominator: the network of q times the costs (`scaled_by`) and the network of the active vertices do not ask which is made first, so
-- all that is said over the active vertices holds at q times the costs, for every q. 1-trees and tours are the same there, and a tour's bound is q
-- times its cost.
use Rattle.std.specs.Prelude.{◌≡◌, refl, ◌↔◌, ℕ, ◌≤◌, ℤ, ◌≤ℤ◌, List, [], ◌∷◌}
use Rattle.std.proofs.Common.{◌∙◌}
use Rattle.lists.specs.Select.{select}
use Rattle.lists.specs.Numbers.{up_to}
use Rattle.integers.specs.Multiples.{◌times◌, times-le, sum_times}
use Rattle.graph.specs.Network.{Network}
use Rattle.tree_theory.specs.OneTree.{Edges, at_one, away}
use Rattle.tree_theory.specs.Scaled.{scaled_by}
use Rattle.tree_theory.specs.Scaling.{valid_scaled}
use Rattle.tours.specs.Tours.{Trip, cost}
use Rattle.afloat.specs.Over.{Ashore, others_over, OneTreeOver, bound_over, TourOver}
use Rattle.afloat.specs.Reduced.{reduced, Fit}
use Rattle.afloat.specs.Compact.{Keeping, compact}
use Rattle.afloat.specs.Meaning.{tour_over_bound}

module _ (q : ℕ) (s : Ashore) (g : Network) where
  -- WHICH IS MADE FIRST does not matter
  pub reduced_scaled : reduced s (scaled_by q g) ≡ scaled_by q (reduced s g)
  reduced_scaled = refl

  pub compact_scaled : (c : Edges) → compact s c (scaled_by q g) ≡ scaled_by q (compact s c g)
  compact_scaled c = refl

  pub fit_scaled : Fit s g → Fit s (scaled_by q g)
  fit_scaled f = record { valid = valid_scaled q g f.valid; one = f.one; three = f.three }

  pub keeping_scaled : (c : Edges) → Keeping s g c → Keeping s (scaled_by q g) c
  keeping_scaled c k = record { free = k.free; rest = k.rest }

  -- 1-TREES AND TOURS
  pub tree_over_scaled : (t : Edges) → OneTreeOver s (scaled_by q g) t ↔ OneTreeOver s g t
  unfolding others_over at_one away
  tree_over_scaled t = (
    λ o. record { two = o.two; rest = o.rest; joined = o.joined; keeps = o.keeps; avoids = o.avoids },
    λ o. record { two = o.two; rest = o.rest; joined = o.joined; keeps = o.keeps; avoids = o.avoids },
  )

  trip_up : (t : Edges) (u : ℕ) (vs : List ℕ) (w : ℕ) → Trip g t u vs w → Trip (scaled_by q g) t u vs w
  trip_up t u [] w j = record { edge = j.edge; listed = j.listed; taken = j.taken; ends = j.ends }
  trip_up t u (v ∷ vs) w j =
      (record { edge = j.0.edge; listed = j.0.listed; taken = j.0.taken; ends = j.0.ends }, trip_up t v vs w j.1)

  trip_down : (t : Edges) (u : ℕ) (vs : List ℕ) (w : ℕ) → Trip (scaled_by q g) t u vs w → Trip g t u vs w
  trip_down t u [] w j = record { edge = j.edge; listed = j.listed; taken = j.taken; ends = j.ends }
  trip_down t u (v ∷ vs) w j =
      (record { edge = j.0.edge; listed = j.0.listed; taken = j.0.taken; ends = j.0.ends }, trip_down t v vs w j.1)

  pub tour_over_scaled : (t : Edges) → TourOver s (scaled_by q g) t ↔ TourOver s g t
  unfolding others_over
  tour_over_scaled t = (
    λ o. record { number = o.number; order = o.order; once = o.once; calls = o.calls; trip = trip_down t 1 o.order 1 o.trip },
    λ o. record { number = o.number; order = o.order; once = o.once; calls = o.calls; trip = trip_up t 1 o.order 1 o.trip },
  )

  -- "the bound is scaled likewise": A TOUR'S BOUND IS q TIMES ITS COST
  pub bound_over_multiple : Fit s g → (d : ℕ → ℤ) (t : Edges) → TourOver s g t → bound_over s (scaled_by q g) d t ≡ q times cost g t
  unfolding cost
  bound_over_multiple f d t o =
      tour_over_bound s (scaled_by q g) (fit_scaled f) d t ((tour_over_scaled t).1 o)
      ∙ sum_times q g.cost (select t (up_to g.m))

  -- "and it is compared with q × ceiling": within it exactly where the cost is within the ceiling
  pub within_tour_over : 1 ≤ q → Fit s g → (d : ℕ → ℤ) (t : Edges) → TourOver s g t → (ceiling : ℤ)
      → (bound_over s (scaled_by q g) d t ≤ℤ q times ceiling) ↔ (cost g t ≤ℤ ceiling)
  within_tour_over some f d t o ceiling = rw (bound_over_multiple f d t o) (times-le q some (cost g t) ceiling)
