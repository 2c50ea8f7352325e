-- The settings' fault in its turn; and where they fit, what the tree part says.
use Rattle.std.proofs.Common.{sym, ◌∙◌, arith}
use Rattle.std.proofs.lemmas.Result.{err_from_is_err_and}
use Rattle.integers.specs.Words.{back64}
use Rattle.graph.specs.Refusals.{not-zero}
use Rattle.node.specs.Given.{Given}
use Rattle.node.specs.Opened.{taken}
use Rattle.node.proofs.Asked.{input_first, ceiling_next, settings_next, input_lent, told, given_back}
use Rattle.node.proofs.passes.ask.Goals as goal

pub returns-in_err-input_fault-clause-tree : goal.returns-in_err-input_fault-clause-tree
returns-in_err-input_fault-clause-tree c = let a = c.args in
    let o : Given = taken a.g.now a.d.now a.settings in
    let r = c.in_err-input_fault.field-0.0 in
    let said = rw (c.min.ensures, c.from.ensures, c.from-in-Err.ensures) at c.in_err-input_fault.ensures in
    let is = said ∙ input_lent a.g.now a.d.now c.told-d in
    let p = err_from_is_err_and c.from_residual.result c.from_residual.ensures.1 in
    rw (p.1, p.2) (input_first o (λ z. not-zero r (is ∙ z)) ∙ sym is)

pub returns-in_err-ceiling_fault-clause-tree : goal.returns-in_err-ceiling_fault-clause-tree
returns-in_err-ceiling_fault-clause-tree c = let a = c.args in
    let o : Given = taken a.g.now a.d.now a.settings in
    let r = c.in_err-ceiling_fault.field-0.0 in
    let input = rw (c.min.ensures, c.from.ensures, c.from-in-Err.ensures) at c.in_ok-input_fault.ensures in
    let is = rw (back64 a.settings.ceiling (omega arith)) at c.in_err-ceiling_fault.ensures in
    let p = err_from_is_err_and c.from_residual-in_err-ceiling_fault.result c.from_residual-in_err-ceiling_fault.ensures.1 in
    rw (p.1, p.2) (ceiling_next o (sym (input ∙ input_lent a.g.now a.d.now c.told-d)) (λ z. not-zero r (is ∙ z)) ∙ sym is)

pub returns-in-Err-clause-tree : goal.returns-in-Err-clause-tree
returns-in-Err-clause-tree c = let a = c.args in
    let o : Given = taken a.g.now a.d.now a.settings in
    let input = rw (c.min.ensures, c.from.ensures, c.from-in-Err.ensures) at c.in_ok-input_fault.ensures in
    let ceiling = rw (back64 a.settings.ceiling (omega arith)) at c.in_ok-ceiling_fault.ensures in
    let is = rw c.in-Err.is at c.settings_fault.ensures in
    settings_next o (sym (input ∙ input_lent a.g.now a.d.now c.told-d)) (sym ceiling) (λ z. not-zero c.in-Err.late (is ∙ z)) ∙ sym is

pub returns-clause-tree : goal.returns-clause-tree
returns-clause-tree c = let a = c.args in
    let said = rw (back64 a.settings.ceiling (omega arith), c.min.ensures, c.from.ensures) at c.pass.ensures in
    told a.g.now a.d.now c.told-d a.settings (sym c.in_default.ensures) _ _ _ _ said.tree said.rulings c.pass.result said.reply _ _ said.hint

pub returns-clause-lists : goal.returns-clause-lists
returns-clause-lists c = let a = c.args in
    let said = rw (back64 a.settings.ceiling (omega arith), c.min.ensures, c.from.ensures) at c.pass.ensures in
    given_back a.g.now a.d.now c.told-d a.settings (sym c.in_default.ensures) a.lists.now c.pass.new.lists said.tree said.rulings c.pass.result said.reply
    said.hint said.weighed
