-- Each way out is one case of the call: rule_refused, rule_none, rule_some.
use Rattle.std.proofs.Common.{◌∙◌, sym}
use Rattle.std.proofs.lemmas.Result.{err_from_is_err_and}
use Rattle.std.proofs.Math.Facts.{to_z-of_z}
use Rattle.integers.specs.Words.{back64}
use Rattle.graph.specs.Refusals.{not-zero}
use Rattle.onetree.specs.RuleCall.{rule_refused, rule_none, rule_some}
use Rattle.onetree.proofs.rule.Goals as goal

pub returns-in_err-capped : goal.returns-in_err-capped
returns-in_err-capped c =
    let a = c.args in
    let e = c.in_err-capped.field-0.0 in
    let p = err_from_is_err_and c.from_residual.result c.from_residual.ensures.1 in
    let fault = rw (to_z-of_z c.ranges.ceiling) at c.in_err-capped.ensures.fault in
    let r = rule_refused a.g.now a.multipliers.now a.ceiling a.denominator a.out.now _ fault (not-zero e) in
    rw (p.1, p.2) (record { reply = r.reply; left = r.left })

pub returns-in_default : goal.returns-in_default
returns-in_default c =
    let a = c.args in
    let new = rw (to_z-of_z c.ranges.ceiling) at c.in_ok-capped.ensures in
    let h = rw (new.same.0, new.same.1, new.same.2, new.same.3) at (rw c.in_default.is at c.judge.ensures) in
    let r = rule_none a.g.now a.multipliers.now a.ceiling a.denominator a.out.now (sym new.fault) h.0.over in
    record { reply = r.reply; left = r.left }

pub returns : goal.returns
returns c =
    let a = c.args in
    let new = rw (to_z-of_z c.ranges.ceiling) at c.in_ok-capped.ensures in
    let h = rw (new.same.0, new.same.1, new.same.2, new.same.3) at (rw c.in-Some.is at c.judge.ensures) in
    let r = rule_some a.g.now a.multipliers.now a.ceiling a.denominator a.out.now (sym new.fault) _ _ _ h.0 in
    rw (back64 c.in-Some.found.bound h.0.fits) (record { reply = r.reply; left = c.write.ensures ∙ r.left })
