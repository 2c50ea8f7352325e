-- The first fault is that of the input; after it that of the denominator is left.
use Rattle.std.proofs.Common.{◌∙◌, refl, sym}
use Rattle.std.proofs.lemmas.Result.{err_from_is_err_and}
use Rattle.graph.specs.Refusals.{positive}
use Rattle.greedy.proofs.Faults.{fault_first, fault_next}
use Rattle.greedy.proofs.least.Goals as goal

pub returns-in_err-checked : goal.returns-in_err-checked
returns-in_err-checked c =
    let p = err_from_is_err_and c.from_residual.result c.from_residual.ensures.1 in
    let new = rw c.from.ensures at c.in_err-checked.ensures in
    rw (p.1, p.2) (record {
      fault = fault_first c.args.g.now c.args.multipliers.now c.args.g.now.m _ _ new.fault (positive c.in_err-checked.field-0.0);
      leaves = refl;
    })

pub returns-in_err-q : goal.returns-in_err-q
returns-in_err-q c =
    let p = err_from_is_err_and c.from_residual-in_err-q.result c.from_residual-in_err-q.ensures.1 in
    let new = rw c.from.ensures at c.in_ok-checked.ensures in
    rw (p.1, p.2) (record {
      fault = c.in_err-q.ensures.fault ∙ sym (fault_next c.args.g.now c.args.multipliers.now c.args.g.now.m _ (sym new.fault));
      leaves = refl;
    })
