-- The cases of `reply` at tell, one for each return; the record is left as it is in each.
use Rattle.std.proofs.Common.{rules, ◌≡◌, refl, ◌∙◌, Err}
use Rattle.integers.specs.Words.{back64}
use Rattle.machine.specs.Calls.{tell}
use Rattle.search.specs.ReplyCases.{IsOpen, tell_going, tell_none, tell_best, graph-valid}
use Rattle.search.proofs.Closed.{parts, closed-parts}
use Rattle.search.proofs.Search.tell.Goals as goal

pub returns-in_err-opened : goal.returns-in_err-opened
returns-in_err-opened c =
    let e : c.from_residual.result ≡ Err c.in_err-opened.field-0.0 = search rules in
    rw e (closed-parts c.args.self.now c.opened.ensures.typed tell tt _ c.in_err-opened.ensures.fault)

pub returns-then-self-ne0 : goal.returns-then-self-ne0
returns-then-self-ne0 c =
    let s = c.args.self.now in
    let o : IsOpen s = c.in_ok-opened.ensures.passed in
    parts s s tell _ (tell_going s o.typed o.passes o.opened c.if-self-ne0.true) refl

pub returns-in_default : goal.returns-in_default
returns-in_default c =
    let s = c.args.self.now in
    let o : IsOpen s = c.in_ok-opened.ensures.passed in
    parts s s tell _ (tell_none s o.typed o.passes o.opened c.if-self-ne0.false (rw c.in_default.is at c.incumbent.ensures)) refl

pub invariant_of-valid : goal.invariant_of-valid
invariant_of-valid c =
    let s = c.args.self.now in
    let o : IsOpen s = c.in_ok-opened.ensures.passed in
    record { valid = graph-valid s o.typed o.passes o.opened }

pub returns : goal.returns
returns c =
    let s = c.args.self.now in
    let o : IsOpen s = c.in_ok-opened.ensures.passed in
    rw (back64 c.tour_cost.result c.tour_cost.type_inv ∙ c.tour_cost.ensures.0, c.in-Some.ensures.1)
    (parts s s tell _ (tell_best s o.typed o.passes o.opened c.if-self-ne0.false c.in-Some.ensures.0) refl)
