-- The first fault is that of the input, the next that of the ceiling, the last that of the denominator.
use Rattle.std.proofs.Common.{◌≡◌, not, cond, ℕ}
use Rattle.std.proofs.lemmas.Result.{err_from_is_err_and}
use Rattle.std.proofs.Math.Facts.{to_z-of_z}
use Rattle.graph.specs.Refusals.{positive}
use Rattle.tree_theory.specs.Inputs.{ceiling_fits}
use Rattle.onetree.specs.Ceiling.{ceiling_first, ceiling_next, ceiling_ranges}
use Rattle.onetree.specs.RuleCall.{rule_first, rule_next}
use Rattle.onetree.proofs.judge.Capped.new.Goals as goal
use Rattle.onetree.proofs.judge.Capped.new.Goals.{In_ok-ceiling_fault}

-- the ceiling has no fault
fine : (c : In_ok-ceiling_fault) → ◌≡◌ {A = ℕ} 0 (cond (not (ceiling_fits c.args.ceiling)) 13 0)
fine c = rw (to_z-of_z c.ranges.ceiling) at c.in_ok-ceiling_fault.ensures

pub returns-in_err-checked-clause-fault : goal.returns-in_err-checked-clause-fault
returns-in_err-checked-clause-fault c =
    let a = c.args in
    let p = err_from_is_err_and c.from_residual.result c.from_residual.ensures.1 in
    rw (p.1, p.2) (rule_first _ _ a.ceiling a.denominator _ _ c.in_err-checked.ensures.fault (positive c.in_err-checked.field-0.0))

pub returns-in_err-ceiling_fault-clause-fault : goal.returns-in_err-ceiling_fault-clause-fault
returns-in_err-ceiling_fault-clause-fault c =
    let a = c.args in
    let p = err_from_is_err_and c.from_residual-in_err-ceiling_fault.result c.from_residual-in_err-ceiling_fault.ensures.1 in
    let fault = rw (to_z-of_z c.ranges.ceiling) at c.in_err-ceiling_fault.ensures in
    rw (p.1, p.2) (rule_next _ _ a.ceiling a.denominator _ _ (ceiling_first a.ceiling a.denominator _ fault (positive c.in_err-ceiling_fault.field-0.0)) c.in_ok-checked.ensures.fault)

pub returns-in_err-q-clause-fault : goal.returns-in_err-q-clause-fault
returns-in_err-q-clause-fault c =
    let a = c.args in
    let p = err_from_is_err_and c.from_residual-in_err-q.result c.from_residual-in_err-q.ensures.1 in
    let fits = fine (goal.at.returns-in_err-q-clause-fault c).In_ok-ceiling_fault in
    rw (p.1, p.2) (rule_next _ _ a.ceiling a.denominator _ _ (ceiling_next a.ceiling a.denominator _ fits c.in_err-q.ensures.fault) c.in_ok-checked.ensures.fault)

pub invariant_of-result : goal.invariant_of-result
invariant_of-result c =
    let fits = fine (goal.at.invariant_of-result c).In_ok-ceiling_fault in
    rw (to_z-of_z c.ranges.ceiling) (record { range = (ceiling_ranges c.args.ceiling c.args.denominator fits c.in_ok-q.ensures.fault).0 })

pub returns-clause-fault : goal.returns-clause-fault
returns-clause-fault c =
    let a = c.args in
    let fits = fine (goal.at.returns-clause-fault c).In_ok-ceiling_fault in
    rule_next _ _ a.ceiling a.denominator _ _ (ceiling_next a.ceiling a.denominator _ fits c.in_ok-q.ensures.fault) c.in_ok-checked.ensures.fault
