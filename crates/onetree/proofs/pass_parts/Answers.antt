-- A refusal is that of the parts, or else the pass's own; what the pass leaves in lists made here is what it leaves in any.
use Rattle.std.proofs.Common.{◌∙◌, sym, refl, ap, false, List, ℕ, length, Option, None, Some, Ok, Err}
use Rattle.std.proofs.lemmas.Result.{err_from_is_err_and}
use Rattle.std.proofs.Math.Facts.{to_z-of_z}
use Rattle.lists.specs.Rows.{row, row_is}
use Rattle.graph.specs.Refusals.{not-zero}
use Rattle.tree_theory.specs.Arrays.{entry}
use Rattle.greedy.specs.declared.Found.{Found}
use Rattle.onetree.specs.Answers.{ruling_bytes, HintAfter}
use Rattle.onetree.specs.RuleCall.{pass-refused, parts_refused, pass_tells, pass_whatever, rulings_long}
use Rattle.onetree.proofs.pass_parts.Goals as goal

-- what is told of a hint where there is no fault
hint_whatever : (found : Option Found) (marks : List ℕ) (m : ℕ) (before other after : List ℕ) → HintAfter (Ok found) marks m before after
    → HintAfter (Ok found) marks m other after
hint_whatever None marks m before other after h = h
hint_whatever (Some found) marks m before other after h = h

pub returns-in_err-g : goal.returns-in_err-g
returns-in_err-g c =
    let a = c.args in
    let q = err_from_is_err_and c.from_residual.result c.from_residual.ensures.1 in
    let fault = parts_refused _ a.multipliers.now a.ceiling a.denominator c.in_err-g.field-0.0 c.in_err-g.ensures in
    let p = pass-refused _ a.multipliers.now a.ceiling a.denominator false a.tree.now a.rulings.now _ fault (not-zero c.in_err-g.field-0.0) in
    rw (q.1, q.2) (record { reply = p.reply; tree = p.chosen; rulings = p.ruled; hint = refl })

pub returns-in_err-found : goal.returns-in_err-found
returns-in_err-found c =
    let a = c.args in
    let e = c.in_err-found.field-0.0 in
    let q = err_from_is_err_and c.from_residual-in_err-found.result c.from_residual-in_err-found.ensures.1 in
    let reply = rw (c.in_ok-g.ensures, to_z-of_z c.ranges.ceiling) at c.in_err-found.ensures.reply in
    let fault = pass_tells _ a.multipliers.now a.ceiling a.denominator (Err e) reply in
    let p = pass-refused _ a.multipliers.now a.ceiling a.denominator false a.tree.now a.rulings.now _ fault (not-zero e) in
    rw (q.1, q.2) (record { reply = p.reply; tree = p.chosen; rulings = p.ruled; hint = refl })

pub returns : goal.returns
returns c =
    let a = c.args in
    let p = rw (c.in_ok-g.ensures, to_z-of_z c.ranges.ceiling) at c.in_ok-found.ensures in
    let any = pass_whatever _ a.multipliers.now a.ceiling a.denominator false c.in_ok-found.found p.reply _ a.tree.now _ a.rulings.now in
    let bytes = ruling_bytes c.pass.new.lists.rulings in
    let long = ap (λ (l : List ℕ). length l) p.rulings ∙ rulings_long _ a.multipliers.now a.ceiling a.denominator false c.in_ok-found.found p.reply _ ∙ sym c.told-rulings in
    let written = c.write.ensures ∙ sym (row_is bytes 0 (entry bytes) (λ j h. refl) ∙ ap (λ (m : ℕ). row m (entry bytes)) long) in
    record {
      reply = p.reply;
      tree = p.tree ∙ any.0;
      rulings = written ∙ p.rulings ∙ any.1;
      hint = hint_whatever c.in_ok-found.found _ _ _ _ _ p.hint;
    }
