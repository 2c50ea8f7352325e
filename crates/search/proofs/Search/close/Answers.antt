-- The cases of `reply` at close, one for each return.
use Rattle.std.proofs.Common.{rules, ◌≡◌, Err}
use Rattle.machine.specs.Calls.{close}
use Rattle.search.specs.ReplyCases.{IsOpen, close_done}
use Rattle.search.proofs.Closed.{parts, closed-parts}
use Rattle.search.proofs.Search.close.Goals as goal

pub returns-in_err-opened : goal.returns-in_err-opened
returns-in_err-opened c =
    let e : c.from_residual.result ≡ Err c.in_err-opened.field-0.0 = search rules in
    rw e (closed-parts c.args.self.now c.opened.ensures.typed close tt _ c.in_err-opened.ensures.fault)

pub returns : goal.returns
returns c =
    let s = c.args.self.now in
    let o : IsOpen s = c.in_ok-opened.ensures.passed in
    parts s _ close _ (close_done s o.typed o.passes o.opened) c.fresh.ensures
