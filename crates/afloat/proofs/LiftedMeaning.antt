-- What the rulings with lifted multipliers say, in Over's words and LiftedOver's alone: an edge that the ordinary rulings keep is barred outside the
-- tree, and forced inside it, exactly where it is so under its lifted multipliers; and no tour over the active vertices within the ceiling is lost.
-- The renumbering is in no statement here.
use Rattle.std.specs.Prelude.{◌≡◌, ◌≢◌, ◌↔◌, Bool, true, false, ℕ, ℤ}
use Rattle.std.proofs.Math.Path.{subst, sym}
use Rattle.std.proofs.Common.{◌∙◌}
use Rattle.lists.specs.Members.{◌∈◌}
use Rattle.lists.specs.Numbers.{up_to}
use Rattle.graph.specs.Network.{Network}
use Rattle.tree_theory.specs.OneTree.{Edges, Least, Barred, Forced}
use Rattle.tree_theory.specs.Enumeration.{Ruling, keeps, forces, bars, ruling}
use Rattle.tours.specs.Tours.{Feasible}
use Rattle.lifting.specs.Lifted.{raised, lowered}
use Rattle.lifting.specs.Rulings.{Tried}
use Rattle.lifting.proofs.Rulings.{lifts_exactly, tour_out, tour_in}
use Rattle.afloat.specs.Over.{Ashore, LeastOver, BarredOver, ForcedOver, FeasibleOver}
use Rattle.afloat.specs.Values.{ruling_over}
use Rattle.afloat.specs.LiftedOver.{raised_over, lowered_over, ruling_with_over}
use Rattle.afloat.specs.Reduced.{reduced, reduced_multiplier, Fit, reduced-valid, touched_excluded}
use Rattle.afloat.specs.Trees.{Untouched}
use Rattle.afloat.specs.Tours.{feasible_iff}
use Rattle.afloat.proofs.Trees.{least_iff, barred_iff, forced_iff}
use Rattle.afloat.proofs.Decided.{ruling-reduced}
use Rattle.afloat.proofs.LiftedOver.{keeps_free, raised-reduced, lowered-reduced, ruling_with-reduced}

module _ (s : Ashore) (g : Network) (f : Fit s g) (d : ℕ → ℤ) (ceiling : ℤ) (k : ℕ) (m : k ∈ up_to g.m) where
  abbrev δ : ℕ → ℤ
  δ = reduced_multiplier s g.n d

  -- what is ruled of an edge that the ordinary rulings keep: t is the tree
  abbrev TriedOver : Edges → Ruling → Type 0
  TriedOver t r =
      (t k ≡ false → ((r ≡ bars) ↔ BarredOver s g (raised_over s g d t k) ceiling k) × (r ≢ forces))
      × (t k ≡ true → ((r ≡ forces) ↔ ForcedOver s g (lowered_over s g d t k) ceiling k) × (r ≢ bars))

  -- document 02, C-13: "outside the tree it is barred, inside it forced, exactly when the definition in Rulings says so under those dues."
  pub lifts_exactly_over : (t : Edges) → LeastOver s g d t → ruling_over s g d ceiling k ≡ keeps
      → TriedOver t (ruling_with_over true s g d ceiling k)
  lifts_exactly_over t l e =
      subst (TriedOver t) (sym (ruling_with-reduced s g f d ceiling k m true)) (back (lifts_exactly (reduced s g) δ ceiling k m t least kept))
    where
      least : Least (reduced s g) δ t
      least = (least_iff s g f d t).0 l

      kept : ruling (reduced s g) δ ceiling k ≡ keeps
      kept = sym (ruling-reduced s g f d ceiling k) ∙ e

      free : Untouched s g t
      free j i h = l.tree.avoids j i (touched_excluded s g f j i h)

      barred : BarredOver s g (raised_over s g d t k) ceiling k ↔ Barred (reduced s g) (raised (reduced s g) δ t k) ceiling k
      barred =
          subst (λ (x : ℕ → ℤ). BarredOver s g (raised_over s g d t k) ceiling k ↔ Barred (reduced s g) x ceiling k)
          (raised-reduced s g f t free d k (keeps_free s g f d ceiling k m kept)) (barred_iff s g f (raised_over s g d t k) ceiling k)

      forced : ForcedOver s g (lowered_over s g d t k) ceiling k ↔ Forced (reduced s g) (lowered (reduced s g) δ t k) ceiling k
      forced =
          subst (λ (x : ℕ → ℤ). ForcedOver s g (lowered_over s g d t k) ceiling k ↔ Forced (reduced s g) x ceiling k)
          (lowered-reduced s g f t free d k (keeps_free s g f d ceiling k m kept)) (forced_iff s g f (lowered_over s g d t k) ceiling k)

      back : {r : Ruling} → Tried (reduced s g) δ ceiling t k r → TriedOver t r
      back h = (
        (λ i. let x = h.0 i in (((λ p. barred.1 (x.0.0 p)), λ p. x.0.1 (barred.0 p)), x.1)),
        λ i. let x = h.1 i in (((λ p. forced.1 (x.0.0 p)), λ p. x.0.1 (forced.0 p)), x.1),
      )

  -- A TOUR OVER THE ACTIVE VERTICES WITHIN THE CEILING SURVIVES, with lifting or without
  module _ (lifting : Bool) (r : Edges) (q : FeasibleOver s g ceiling r) where
    feasible : Feasible (reduced s g) ceiling r
    feasible = (feasible_iff s g f ceiling r).0 q

    pub tour_over_out : ruling_with_over lifting s g d ceiling k ≡ bars → r k ≡ false
    tour_over_out h =
        tour_out (reduced s g) δ ceiling k m (reduced-valid s g f) lifting r feasible.tour feasible.allowed feasible.cheap
        (sym (ruling_with-reduced s g f d ceiling k m lifting) ∙ h)

    pub tour_over_in : ruling_with_over lifting s g d ceiling k ≡ forces → r k ≡ true
    tour_over_in h =
        tour_in (reduced s g) δ ceiling k m (reduced-valid s g f) lifting r feasible.tour feasible.allowed feasible.cheap
        (sym (ruling_with-reduced s g f d ceiling k m lifting) ∙ h)
