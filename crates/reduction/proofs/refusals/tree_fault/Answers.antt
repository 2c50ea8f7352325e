-- Each test is the next of the definition.
use Rattle.std.proofs.Common.{◌∙◌, ap}
use Rattle.std.proofs.lemmas.Result.{err_from_is_err_and}
use Rattle.graph.specs.Refusals.{positive}
use Rattle.afloat.specs.Over.{ashore_fault}
use Rattle.reduction.specs.Accepting.{tree_first, tree_second, tree_third}
use Rattle.reduction.proofs.refusals.tree_fault.Goals as goal

pub returns-in_err-input_fault : goal.returns-in_err-input_fault
returns-in_err-input_fault c =
    let p = err_from_is_err_and c.from_residual.result c.from_residual.ensures.1 in
    rw (p.1, p.2) (tree_first _ _ _ _ _ _ c.in_err-input_fault.ensures (positive c.in_err-input_fault.field-0.0))

pub returns-in_err-denominator_fault : goal.returns-in_err-denominator_fault
returns-in_err-denominator_fault c =
    let p = err_from_is_err_and c.from_residual-in_err-denominator_fault.result c.from_residual-in_err-denominator_fault.ensures.1 in
    rw (p.1, p.2) (tree_second _ _ _ _ _ _ c.in_err-denominator_fault.ensures (positive c.in_err-denominator_fault.field-0.0) c.in_ok-input_fault.ensures)

pub returns : goal.returns
returns c =
    tree_third _ _ _ _ _ _ (c.ashore_fault.ensures ∙ ap (ashore_fault c.args.ashore.now) c.from.ensures) c.in_ok-denominator_fault.ensures
    c.in_ok-input_fault.ensures
