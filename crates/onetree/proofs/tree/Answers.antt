-- Each way out is one case of the call: tree-refused, tree_none, tree_some.
use Rattle.std.proofs.Common.{◌∙◌, ◌≤◌, sym, length, arith}
use Rattle.std.proofs.lemmas.Result.{err_from_is_err_and}
use Rattle.integers.specs.Words.{back64}
use Rattle.graph.specs.Refusals.{not-zero}
use Rattle.tree_theory.specs.Accepted.{no_fault}
use Rattle.onetree.specs.TreeCall.{graph_first, length_first, tree_else, tree-refused, tree_none, tree_some, row_front}
use Rattle.onetree.proofs.tree.Goals as goal

pub returns-in_err-fault : goal.returns-in_err-fault
returns-in_err-fault c =
    let a = c.args in
    let e = c.in_err-fault.field-0 in
    let p = err_from_is_err_and c.from_residual.result c.from_residual.ensures.1 in
    let fault = graph_first a.g.now a.multipliers.now a.denominator (length a.out.now) _ c.in_err-fault.ensures in
    let r = tree-refused a.g.now a.multipliers.now a.denominator a.out.now _ fault (not-zero e.0) in
    rw (p.1, p.2) (record { reply = r.reply; left = r.left })

pub returns-then-out-from : goal.returns-then-out-from
returns-then-out-from c =
    let a = c.args in
    let fault = length_first a.g.now a.multipliers.now a.denominator (length a.out.now) c.in_ok-fault.ensures (λ e. c.if-out-from.true (e ∙ sym c.from.ensures)) in
    let r = tree-refused a.g.now a.multipliers.now a.denominator a.out.now _ fault (omega arith) in
    record { reply = r.reply; left = r.left }

pub returns-in_err-found : goal.returns-in_err-found
returns-in_err-found c =
    let a = c.args in
    let e = c.in_err-found.field-0.0 in
    let p = err_from_is_err_and c.from_residual-in_err-found.result c.from_residual-in_err-found.ensures.1 in
    let fault = tree_else a.g.now _ a.denominator _ _ (c.if-out-from.false ∙ c.from.ensures) c.in_err-found.ensures.fault in
    let r = tree-refused a.g.now a.multipliers.now a.denominator a.out.now _ fault (not-zero e) in
    rw (p.1, p.2) (record { reply = r.reply; left = r.left })

pub returns-in_default : goal.returns-in_default
returns-in_default c =
    let a = c.args in
    let fault = tree_else a.g.now _ a.denominator _ _ (c.if-out-from.false ∙ c.from.ensures) c.in_ok-found.ensures.fault in
    let least = rw c.in_default.is at c.in_ok-found.ensures.leaves in
    let r = tree_none a.g.now a.multipliers.now a.denominator a.out.now (sym fault) least.none in
    record { reply = r.reply; left = r.left }

pub returns : goal.returns
returns c =
    let a = c.args in
    let fault = tree_else a.g.now _ a.denominator _ _ (c.if-out-from.false ∙ c.from.ensures) c.in_ok-found.ensures.fault in
    let least = rw c.in-Some.is at c.in_ok-found.ensures.leaves in
    let ok = (no_fault a.g.now a.multipliers.now a.g.now.m _ (sym c.in_ok-found.ensures.fault)).0 in
    let front : length a.out.now ≤ length c.least.new.lists.tree = omega (arith, least.long, c.if-out-from.false, c.from.ensures, ok.valid.few) in
    let r = tree_some a.g.now a.multipliers.now a.denominator a.out.now (sym fault) _ _ least.least least.bound_is least.bits in
    rw (back64 c.in-Some.found.bound least.fits) (record { reply = r.reply; left = c.copy_from_slice.ensures.after ∙ row_front _ _ front ∙ r.left })
