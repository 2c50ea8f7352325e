-- Three of the tests, by what the ones before have passed (specs/Faults): the check finds the others.
use Rattle.std.proofs.Common.{◌≡◌, ℕ, Err, sym, ap, ◌∙◌, rules}
use Rattle.integers.specs.Words.{back64}
use Rattle.graph.specs.Refusals.{number, fault_of, not-zero}
use Rattle.graph.specs.Valid.{valid}
use Rattle.tree_theory.specs.Inputs.{multipliers_fit, ceiling_fits, denominator_fault, or_else}
use Rattle.afloat.specs.Over.{ashore_fault}
use Rattle.compare.specs.Comparison.{compare_fault}
use Rattle.compare.specs.Faults.{told, passed, first_one, fault_multipliers, fault-left}
use Rattle.compare.proofs.Comparison.fault.Goals as goal
use Rattle.compare.proofs.Comparison.fault.Goals.{In_ok-unless-2}

pub returns-in_err-multipliers_fault : goal.returns-in_err-multipliers_fault
returns-in_err-multipliers_fault c =
    let a = c.args.self.now in
    let v = passed (valid a.g.now) 14 c.in_ok-fault.ensures in
    let l = sym c.sizes_fit.ensures ∙ c.in_ok-unless.ensures.fits in
    let refusal = c.in_err-multipliers_fault.field-0.0 in
    let is : c.from_residual-in_err-multipliers_fault.result ≡ Err refusal = search rules in
    let t = told (multipliers_fit a.multipliers.now) 12 refusal c.in_err-multipliers_fault.ensures in
    ap fault_of is ∙ t.1 ∙ sym (fault_multipliers _ _ _ _ _ _ _ v l t.0)

-- what is left to test, once the settings fit
what_is_left : (c : In_ok-unless-2) → let a = c.args.self.now in
    compare_fault a.g.now a.multipliers.now a.ashore.now a.terms a.sweeps.now a.steps.now a.entries
    ≡ or_else (denominator_fault a.terms.denominator) (ashore_fault a.ashore.now a.g.now.n)
what_is_left c =
    let a = c.args.self.now in
    let v = passed (valid a.g.now) 14 c.in_ok-fault.ensures in
    let l = sym c.sizes_fit.ensures ∙ c.in_ok-unless.ensures.fits in
    let f = passed (multipliers_fit a.multipliers.now) 11 c.in_ok-multipliers_fault.ensures in
    let u = passed (ceiling_fits a.terms.ceiling) 12 (rw (back64 a.terms.ceiling (search (rules, c.well_formed))) at c.in_ok-ceiling_fault.ensures) in
    fault-left _ _ _ _ _ _ _ v l f u (sym c.settings_fit.ensures ∙ c.in_ok-unless-2.ensures.fits)

pub returns-in_err-denominator_fault : goal.returns-in_err-denominator_fault
returns-in_err-denominator_fault c =
    let refusal = c.in_err-denominator_fault.field-0.0 in
    let is : c.from_residual-in_err-denominator_fault.result ≡ Err refusal = search rules in
    let e = c.in_err-denominator_fault.ensures in
    ap fault_of is ∙ sym (what_is_left (goal.at.returns-in_err-denominator_fault c).In_ok-unless-2 ∙ rw (← e) (first_one (number refusal) _ (not-zero refusal)))

pub returns : goal.returns
returns c =
    let a = c.args.self.now in
    c.ashore_fault.ensures
    ∙ ap (ashore_fault a.ashore.now) c.from.ensures
    ∙ sym (what_is_left (goal.at.returns c).In_ok-unless-2
    ∙ ap (λ (f : ℕ). or_else f (ashore_fault a.ashore.now a.g.now.n)) (sym c.in_ok-denominator_fault.ensures))
