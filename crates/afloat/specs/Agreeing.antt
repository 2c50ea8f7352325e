-- "two hunts agree when their lists are the same": one network under two numberings of its edges has, for one set of inactive vertices, the same
-- allowed tours over the active ones, of the same costs. For different sets nothing is claimed.
use Rattle.std.specs.Prelude.{◌≡◌, cond, ◌&&◌, ◌||◌, ℕ, eqb, ℤ}
use Rattle.std.proofs.Common.{sym, ◌∙◌}
use Rattle.std.proofs.Math.Path.{ap, subst}
use Rattle.std.proofs.Math.Bool.{not}
use mathlib.Core.List.{List, [], ◌∷◌}
use Rattle.lists.specs.Members.{◌∈◌}
use Rattle.lists.specs.Select.{select}
use Rattle.lists.specs.Numbers.{up_to}
use Rattle.graph.specs.Network.{Network, excluded}
use Rattle.tree_theory.specs.OneTree.{Edges}
use Rattle.tours.specs.Tours.{Trip, Allowed, cost}
use Rattle.tours.specs.OneNetwork.{SameEdge, OneNetwork}
use Rattle.tours.specs.Renumbering.{Simple, renumbered, size_same, cost-same, trip_same, allowed_same}
use Rattle.afloat.specs.Over.{Ashore, active, active_count, others_over, mark_over, TourOver, FeasibleOver}

-- the network with the marks that count
abbrev struck : Ashore → Network → Network
struck s g = record { n = g.n; m = g.m; a = g.a; b = g.b; cost = g.cost; mark = mark_over s g }

-- a trip does not go by marks
module _ (s : Ashore) (g : Network) (t : Edges) where
  trip_struck : (u : ℕ) (vs : List ℕ) (w : ℕ) → Trip g t u vs w → Trip (struck s g) t u vs w
  trip_struck u [] w j = record { edge = j.edge; listed = j.listed; taken = j.taken; ends = j.ends }
  trip_struck u (v ∷ vs) w j =
      (record { edge = j.0.edge; listed = j.0.listed; taken = j.0.taken; ends = j.0.ends }, trip_struck v vs w j.1)

  trip_plain : (u : ℕ) (vs : List ℕ) (w : ℕ) → Trip (struck s g) t u vs w → Trip g t u vs w
  trip_plain u [] w j = record { edge = j.edge; listed = j.listed; taken = j.taken; ends = j.ends }
  trip_plain u (v ∷ vs) w j =
      (record { edge = j.0.edge; listed = j.0.listed; taken = j.0.taken; ends = j.0.ends }, trip_plain v vs w j.1)

module _ (s : Ashore) (g h : Network) (o : OneNetwork g h) (simple : Simple g) where
  same_edge : (k j : ℕ) → SameEdge g h k j → SameEdge (struck s g) (struck s h) k j
  same_edge k j e = record {
    a = e.a;
    b = e.b;
    cost = e.cost;
    mark = λ i. cond (s (e.a i) || s (e.b i)) excluded (e.mark i);
  }

  one-struck : OneNetwork (struck s g) (struck s h)
  one-struck = record { n = o.n; m = o.m; there = λ k i. let r = o.there k i in (r.0, r.1, same_edge k r.0 r.2) }

  -- the set in the other's numbers
  pub over_there : Edges → Edges
  over_there t = renumbered (struck s g) (struck s h) one-struck simple t

  others_same : others_over s g ≡ others_over s h
  unfolding others_over
  others_same = ap (λ (n : ℕ). select (λ v. active s v && not (eqb v 1)) (up_to n)) (sym o.n)

  tour_over_same : (t : Edges) → TourOver s g t → TourOver s h (over_there t)
  unfolding over_there
  tour_over_same t q = record {
    number = size_same (struck s g) (struck s h) one-struck simple t ∙ q.number ∙ ap (active_count s) (sym o.n);
    order = q.order;
    once = q.once;
    calls = λ v. (
      λ i. subst (λ (l : List ℕ). v ∈ l) others_same ((q.calls v).0 i),
      λ i. (q.calls v).1 (subst (λ (l : List ℕ). v ∈ l) (sym others_same) i),
    );
    trip =
        trip_plain s h (over_there t) 1 q.order 1
        (trip_same (struck s g) (struck s h) one-struck simple t 1 q.order 1 (trip_struck s g t 1 q.order 1 q.trip));
  }

  cost_over_same : (t : Edges) → cost h (over_there t) ≡ cost g t
  unfolding over_there cost
  cost_over_same t = cost-same (struck s g) (struck s h) one-struck simple t

  -- WHAT THE ONE HAS WITHIN A CEILING, THE OTHER HAS
  pub feasible_over_same : (ceiling : ℤ) (t : Edges) → FeasibleOver s g ceiling t
      → FeasibleOver s h ceiling (over_there t) × (cost h (over_there t) ≡ cost g t)
  unfolding over_there
  feasible_over_same ceiling t q = (
    record {
      tour = tour_over_same t q.tour;
      allowed = record { keeps = allowed.keeps; avoids = allowed.avoids };
      cheap = rw (cost_over_same t) q.cheap;
    },
    cost_over_same t,
  )
    where
      allowed : Allowed (struck s h) (over_there t)
      allowed =
          allowed_same (struck s g) (struck s h) one-struck simple t (record { keeps = q.allowed.keeps; avoids = q.allowed.avoids })
