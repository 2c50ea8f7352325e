-- Document 02's C-17: an opening that is lawful at q times the costs and q times the upper bound is lawful in minutes. Assumes nothing.
use Rattle.std.specs.Prelude.{◌⊎◌, ◌↔◌, ℕ, ◌≤◌, ℤ, ◌≤ℤ◌}
use Rattle.std.proofs.Common.{sym, ap, ◌∙◌, inl, inr}
use Rattle.integers.specs.Multiples.{◌times◌, times-le, times-lt}
use Rattle.graph.specs.Network.{Network}
use Rattle.tree_theory.specs.OneTree.{Edges}
use Rattle.tree_theory.specs.Valid.{Valid}
use Rattle.tree_theory.specs.Scaled.{scaled_by}
use Rattle.tree_theory.specs.Scaling.{valid_scaled}
use Rattle.tours.specs.Tours.{cost}
use Rattle.machine.specs.Outcomes.{closes, finds, splits}
use Rattle.machine.specs.Machine.{Marks, Node, node_of, Opened, with_marks, edges_of}
use Rattle.machine.specs.Laws.BranchAndBound.{Lawful}
use Rattle.machine.specs.Laws.NodeTours.{Inside, Before}
use Rattle.machine.proofs.NodeTours.{tours}
use Rattle.machine.proofs.OpeningLaws.{Law}
use Rattle.machine.specs.Laws.Scaled.{tour_scaled, cost_scaled}

module _ (q : ℕ) (g : Network) where
  -- ---- a node's tours

  inside-down : (t : Edges) (x : Marks) → Inside (scaled_by q g) t x → Inside g t x
  unfolding with_marks
  inside-down t x i =
      record { tour = (tour_scaled q g t).0 i.tour; allowed = record { keeps = i.allowed.keeps; avoids = i.allowed.avoids } }

  inside-up : (t : Edges) (x : Marks) → Inside g t x → Inside (scaled_by q g) t x
  unfolding with_marks
  inside-up t x i =
      record { tour = (tour_scaled q g t).1 i.tour; allowed = record { keeps = i.allowed.keeps; avoids = i.allowed.avoids } }

  module _ (some : 1 ≤ q) where
    within : (t : Edges) (u : ℤ) → (cost (scaled_by q g) t ≤ℤ q times u) ↔ (cost g t ≤ℤ u)
    within t u = rw (cost_scaled q g t) (times-le q some (cost g t) u)

    -- a tour that comes before another, so too at q times the costs
    before-up : (t s : Edges) → Before g t s → Before (scaled_by q g) t s
    before-up t s (inl h) = inl (rw (cost_scaled q g t, cost_scaled q g s) ((times-lt q some (cost g t) (cost g s)).1 h))
    before-up t s (inr h) = inr (cost_scaled q g t ∙ ap (λ (z : ℤ). q times z) h.0 ∙ sym (cost_scaled q g s), h.1)

    -- AN OPENING LAWFUL AT q TIMES THE COSTS IS LAWFUL IN MINUTES
    lawful_scaled : (u : ℤ) (x : Node) (out : Opened) → Lawful (tours (scaled_by q g)) (q times u) x out → Lawful (tours g) u x out
    lawful_scaled u x closes h = λ t i w. h t (inside-up t x.marks i) ((within t u).1 w)
    lawful_scaled u x (finds r) h = record {
      inside = inside-down (edges_of r) x.marks h.inside;
      within = (within (edges_of r) u).0 h.within;
      least = λ t i w. h.least t (inside-up t x.marks i) (before-up t (edges_of r) w);
    }
    lawful_scaled u x (splits out into) h = record {
      loses = λ t i w. either t (h.loses t (inside-up t x.marks i) ((within t u).1 w));
      of_out = λ t i. inside-down t x.marks (h.of_out t (inside-up t out.marks i));
      of_into = λ t i. inside-down t x.marks (h.of_into t (inside-up t into.marks i));
      smaller_out = h.smaller_out;
      smaller_into = h.smaller_into;
    }
      where
        either : (t : Edges) → Inside (scaled_by q g) t out.marks ⊎ Inside (scaled_by q g) t into.marks
            → Inside g t out.marks ⊎ Inside g t into.marks
        either t (inl i) = inl (inside-down t out.marks i)
        either t (inr i) = inr (inside-down t into.marks i)

    pub law_scaled : (v : Valid g) (u : ℤ) (x : Marks) (out : Opened) → Law (scaled_by q g) (valid_scaled q g v) (q times u) x out
        → Law g v u x out
    law_scaled v u x out h d = lawful_scaled u (node_of d x) out (h d)
