-- The first fault is that of the parts or of the other input; after it the caller's, and after it that of the denominator.
use Rattle.std.proofs.Common.{◌∙◌, refl, sym}
use Rattle.std.proofs.lemmas.Result.{err_from_is_err_and}
use Rattle.graph.specs.Refusals.{positive, not-zero}
use Rattle.tree_theory.specs.Accepted.{else_first}
use Rattle.greedy.proofs.Faults.{fault_graph, fault_first, fault_next}
use Rattle.greedy.proofs.parts.least_parts.Goals as goal

pub returns-in_err-g : goal.returns-in_err-g
returns-in_err-g c =
    let p = err_from_is_err_and c.from_residual.result c.from_residual.ensures.1 in
    let e = c.in_err-g.ensures in
    rw (p.1, p.2) (record { fault = e.0 ∙ sym (fault_graph _ c.args.multipliers.now c.args.lent _ e.1); leaves = refl })

pub returns-in_err-checked : goal.returns-in_err-checked
returns-in_err-checked c =
    let p = err_from_is_err_and c.from_residual-in_err-checked.result c.from_residual-in_err-checked.ensures.1 in
    let first = rw c.in_ok-g.ensures at c.in_err-checked.ensures.fault in
    rw (p.1, p.2) (record {
      fault = fault_first _ c.args.multipliers.now c.args.lent _ _ first (positive c.in_err-checked.field-0.0);
      leaves = refl;
    })

pub returns-in_err-later : goal.returns-in_err-later
returns-in_err-later c =
    let p = err_from_is_err_and c.from_residual-in_err-later.result c.from_residual-in_err-later.ensures.1 in
    let none = rw c.in_ok-g.ensures at c.in_ok-checked.ensures.fault in
    let left = fault_next _ c.args.multipliers.now c.args.lent _ (sym none) in
    rw (p.1, p.2) (record { fault = sym (left ∙ rw c.in_err-later.was (else_first _ _ (not-zero c.in_err-later.field-0.0))); leaves = refl })

pub returns-in_err-q : goal.returns-in_err-q
returns-in_err-q c =
    let p = err_from_is_err_and c.from_residual-in_err-q.result c.from_residual-in_err-q.ensures.1 in
    let none = rw c.in_ok-g.ensures at c.in_ok-checked.ensures.fault in
    let left = fault_next _ c.args.multipliers.now c.args.lent _ (sym none) in
    rw (p.1, p.2) (record { fault = c.in_err-q.ensures.fault ∙ sym (left ∙ rw c.in_ok-later.was refl); leaves = refl })
