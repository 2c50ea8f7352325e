-- The first test that fails says the fault, or the last one does.
use Rattle.std.specs.Prelude.{◌≡◌, refl, Bool, true, false, not, cond, ◌&&◌, ℕ, eqb, leb, length, ℤ}
use Rattle.std.specs.Prelude.{Err}
use Rattle.std.proofs.Common.{sym, ap, ◌∙◌, arith, rules, eq-eqb}
use Rattle.graph.specs.Refusals.{number, not-zero}
use Rattle.integers.specs.Words.{back64}
use Rattle.graph.specs.Limits.{max_sweeps, max_step}
use Rattle.graph.specs.Valid.{valid}
use Rattle.tree_theory.specs.Inputs.{multipliers_fit, ceiling_fits, denominator_fault}
use Rattle.reduction.specs.Answers.{input_fault_over}
use Rattle.machine.specs.Machine.{Opening}
use Rattle.search.specs.Begun.{asked, given_fault}
use Rattle.search.proofs.opening.Opening.given_fault.Goals as goal

-- a test that fails, and one that does not
at : (a : Bool) (number k rest : ℕ) → (k ≡ 0 → ⊥) → k ≡ cond (not a) number 0 → k ≡ cond (not a) number rest
at false number k rest n e = e
at true number k rest n e = absurd (n e)

past : (a : Bool) (number k rest : ℕ) → (number ≡ 0 → ⊥) → 0 ≡ cond (not a) number 0 → k ≡ rest → k ≡ cond (not a) number rest
past false number k rest n e f = absurd (n (sym e))
past true number k rest n e f = f

-- of the first three, and of the last two
at_input : (a b c : Bool) (k rest : ℕ) → (k ≡ 0 → ⊥) → k ≡ cond (not a) 15 (cond (not (b && true)) 11 (cond (not c) 12 0))
    → k ≡ cond (not a) 15 (cond (not b) 11 (cond (not c) 12 rest))
at_input false b c k rest n e = e
at_input true false c k rest n e = e
at_input true true c k rest n e = at c 12 k rest n e

past_input : (a b c : Bool) (k rest : ℕ) → ◌≡◌ {A = ℕ} 0 (cond (not a) 15 (cond (not (b && true)) 11 (cond (not c) 12 0))) → k ≡ rest
    → k ≡ cond (not a) 15 (cond (not b) 11 (cond (not c) 12 rest))
past_input false b c k rest e f = absurd (omega arith)
past_input true false c k rest e f = absurd (omega arith)
past_input true true c k rest e f = past c 12 k rest (λ z. omega arith) e f

-- a fault past the graph, the lists and the multipliers
module _ (o : Opening) (told : 0 ≡ input_fault_over o.graph o.multipliers o.ashore o.graph.m 0) where
  module _ (k : ℕ) where
    after_input : k ≡ cond (not (ceiling_fits o.settings.ceiling)) 13
        (cond (not (leb o.settings.sweeps max_sweeps && leb o.settings.step max_step)) 14
        (denominator_fault o.settings.denominator)) → k ≡ given_fault o
    unfolding given_fault input_fault_over
    after_input e =
        past_input (valid o.graph) (eqb (length o.multipliers) o.graph.n && eqb (length o.ashore) o.graph.n) (multipliers_fit o.multipliers) k _
        (rw (eq-eqb o.graph.m o.graph.m refl) at told) e

    after_ceiling : ◌≡◌ {A = ℕ} 0 (cond (not (ceiling_fits o.settings.ceiling)) 13 0)
        → k ≡ cond (not (leb o.settings.sweeps max_sweeps && leb o.settings.step max_step)) 14
        (denominator_fault o.settings.denominator) → k ≡ given_fault o
    after_ceiling c e = after_input (past (ceiling_fits o.settings.ceiling) 13 k _ (λ z. omega arith) c e)

    after_settings : ◌≡◌ {A = ℕ} 0 (cond (not (ceiling_fits o.settings.ceiling)) 13 0)
        → ◌≡◌ {A = ℕ} 0 (cond (not (leb o.settings.sweeps max_sweeps && leb o.settings.step max_step)) 14 0)
        → k ≡ denominator_fault o.settings.denominator → k ≡ given_fault o
    after_settings c s e =
        after_ceiling c (past (leb o.settings.sweeps max_sweeps && leb o.settings.step max_step) 14 k _ (λ z. omega arith) s e)

pub returns-in_err-input_fault : goal.returns-in_err-input_fault
unfolding given_fault input_fault_over
returns-in_err-input_fault c =
    let o : Opening = asked c.args.self.now in
    let r = c.in_err-input_fault.field-0.0 in
    let is : c.from_residual.result ≡ Err r = search rules in
    rw is
    (at_input (valid o.graph) (eqb (length o.multipliers) o.graph.n && eqb (length o.ashore) o.graph.n) (multipliers_fit o.multipliers) (number r) _
    (not-zero r) (rw (eq-eqb o.graph.m o.graph.m refl) at (rw c.from.ensures at c.in_err-input_fault.ensures)))

pub returns-in_err-ceiling_fault : goal.returns-in_err-ceiling_fault
returns-in_err-ceiling_fault c =
    let o : Opening = asked c.args.self.now in
    let z = back64 c.args.self.now.settings.ceiling (search (rules, c.well_formed)) in
    let r = c.in_err-ceiling_fault.field-0.0 in
    let is : c.from_residual-in_err-ceiling_fault.result ≡ Err r = search rules in
    rw is
    (after_input o (rw c.from.ensures at c.in_ok-input_fault.ensures) (number r)
    (at (ceiling_fits o.settings.ceiling) 13 (number r) _ (not-zero r)
    (c.in_err-ceiling_fault.ensures ∙ ap (λ (y : ℤ). cond (not (ceiling_fits y)) 13 0) z)))

pub returns-in_err-settings_fault : goal.returns-in_err-settings_fault
returns-in_err-settings_fault c =
    let o : Opening = asked c.args.self.now in
    let z = back64 c.args.self.now.settings.ceiling (search (rules, c.well_formed)) in
    let r = c.in_err-settings_fault.field-0.0 in
    let is : c.from_residual-in_err-settings_fault.result ≡ Err r = search rules in
    rw is
    (after_ceiling o (rw c.from.ensures at c.in_ok-input_fault.ensures) (number r)
    (c.in_ok-ceiling_fault.ensures ∙ ap (λ (y : ℤ). cond (not (ceiling_fits y)) 13 0) z)
    (at (leb o.settings.sweeps max_sweeps && leb o.settings.step max_step) 14 (number r) _ (not-zero r) c.in_err-settings_fault.ensures))

pub returns : goal.returns
returns c =
    let o : Opening = asked c.args.self.now in
    let z = back64 c.args.self.now.settings.ceiling (search (rules, c.well_formed)) in
    after_settings o (rw c.from.ensures at c.in_ok-input_fault.ensures) _
    (c.in_ok-ceiling_fault.ensures ∙ ap (λ (y : ℤ). cond (not (ceiling_fits y)) 13 0) z) c.in_ok-settings_fault.ensures c.denominator_fault.ensures
