-- Which ruling an edge has, told by the definitions: what a program must know of a free edge to give the ruling. And demand 2's sentence on
-- rulings as one theorem (rules_exactly). Assumes nothing.
use Rattle.std.specs.Prelude.{◌≡◌, refl, ◌↔◌, Bool, true, false, ℕ, ℤ}
use Rattle.std.proofs.Common.{sym, ◌∙◌}
use Rattle.lists.specs.Bools.{by_cases}
use Rattle.lists.specs.Members.{◌∈◌}
use Rattle.lists.specs.Numbers.{up_to}
use Rattle.graph.specs.Network.{Network, free, required, excluded}
use Rattle.tree_theory.specs.OneTree.{Infeasible, Barred, Forced}
use Rattle.tree_theory.specs.Enumeration.{barred_b, forced_b, keeps, forces, bars, was_required, was_excluded, ruled, ruling}
use Rattle.tree_theory.specs.Decide.{barred_test, forced_test}

module _ (g : Network) (d : ℕ → ℤ) (ceiling : ℤ) (k : ℕ) (m : k ∈ up_to g.m) where
  not_barred : ¬ Barred g d ceiling k → barred_b g d ceiling k ≡ false
  not_barred nb = by_cases (barred_b g d ceiling k) (λ e. absurd (nb ((barred_test g d ceiling k m).0 e))) (λ e. e)

  not_forced : ¬ Forced g d ceiling k → forced_b g d ceiling k ≡ false
  not_forced nf = by_cases (forced_b g d ceiling k) (λ e. absurd (nf ((forced_test g d ceiling k m).0 e))) (λ e. e)

  pub rules_out : g.mark k ≡ free → Barred g d ceiling k → ruling g d ceiling k ≡ bars
  unfolding ruling
  rules_out e b = rw (e, (barred_test g d ceiling k m).1 b)

  pub rules_in : g.mark k ≡ free → ¬ Barred g d ceiling k → Forced g d ceiling k → ruling g d ceiling k ≡ forces
  unfolding ruling
  rules_in e nb f = rw (e, not_barred nb, (forced_test g d ceiling k m).1 f)

  pub rules_nothing : g.mark k ≡ free → ¬ Barred g d ceiling k → ¬ Forced g d ceiling k → ruling g d ceiling k ≡ keeps
  unfolding ruling
  rules_nothing e nb nf = rw (e, not_barred nb, not_forced nf)

  pub rules_required : g.mark k ≡ required → ruling g d ceiling k ≡ was_required
  unfolding ruling
  rules_required e = rw e

  pub rules_excluded : g.mark k ≡ excluded → ruling g d ceiling k ≡ was_excluded
  unfolding ruling
  rules_excluded e = rw e

-- an edge that is both barred and forced tells that no 1-tree is within the ceiling: where rulings are given, no edge is both
pub both_infeasible : (g : Network) (d : ℕ → ℤ) (ceiling : ℤ) (k : ℕ) → Barred g d ceiling k → Forced g d ceiling k → Infeasible g d ceiling
unfolding Infeasible Barred Forced
both_infeasible g d ceiling k b f t o = by_cases (t k) (λ h. b t o h) (λ h. f t o h)

-- DEMAND 2: where the network is not infeasible ('dead'), "a free leg is barred exactly when no 1-tree with it has a bound within the
-- ceiling, and forced exactly when none without it has."
pub rules_exactly : (g : Network) (d : ℕ → ℤ) (ceiling : ℤ) (k : ℕ) → k ∈ up_to g.m → ¬ Infeasible g d ceiling → g.mark k ≡ free
    → ((ruling g d ceiling k ≡ bars) ↔ Barred g d ceiling k) × ((ruling g d ceiling k ≡ forces) ↔ Forced g d ceiling k)
rules_exactly g d ceiling k m feasible e = (
  (
    λ r. (barred_test g d ceiling k m).0 (is_bars_lem (barred_b g d ceiling k) (forced_b g d ceiling k) (sym of_free ∙ r)),
    rules_out g d ceiling k m e,
  ),
  (
    λ r. (forced_test g d ceiling k m).0 (is_forces_lem (barred_b g d ceiling k) (forced_b g d ceiling k) (sym of_free ∙ r)),
    λ f. rules_in g d ceiling k m e (λ b. feasible (both_infeasible g d ceiling k b f)) f,
  ),
)
  where
    of_free : ruling g d ceiling k ≡ ruled free (barred_b g d ceiling k) (forced_b g d ceiling k)
    of_free = unfold ruling in rw e

    is_bars_lem : (b f : Bool) → ruled free b f ≡ bars → b ≡ true
    is_bars_lem true f r = refl
    is_bars_lem false true r = cc
    is_bars_lem false false r = cc

    is_forces_lem : (b f : Bool) → ruled free b f ≡ forces → f ≡ true
    is_forces_lem true f r = cc
    is_forces_lem false true r = refl
    is_forces_lem false false r = cc
