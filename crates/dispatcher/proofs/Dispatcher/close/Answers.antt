-- The search's own answer (specs/Cases): the check finds the rest.
use Rattle.std.proofs.Common.{ap, ◌∙◌}
use Rattle.machine.specs.Calls.{Answer}
use Rattle.dispatch_theory.specs.Dispatcher.{said}
use Rattle.dispatcher.specs.Replies.{Outcome}
use Rattle.dispatcher.specs.Cases.{close_done}
use Rattle.dispatcher.proofs.Dispatcher.close.Goals as goal

pub returns-clause-answer : goal.returns-clause-answer
returns-clause-answer c =
    let e = c.in_ok-at.ensures in
    ap (λ (a : Answer). said a) c.close.ensures.answer ∙ ap (λ (o : Outcome). o.answer) (close_done c.args.self.now e.laid c.args.place c.in_ok-at.at e.held _)
