-- The list that was lent (specs/Cases): the check finds the rest.
use Rattle.std.proofs.Common.{◌∙◌}
use Rattle.dispatcher.specs.Cases.{show_refused, show_done}
use Rattle.dispatcher.proofs.Dispatcher.show.Goals as goal

pub returns-in_err-at-clause-list : goal.returns-in_err-at-clause-list
returns-in_err-at-clause-list c =
    let e = c.in_err-at.ensures in (show_refused c.args.self.now e.laid c.args.place c.in_err-at.field-0.0 e.held c.args.out.now).1

pub returns-clause-list : goal.returns-clause-list
returns-clause-list c =
    let e = c.in_ok-at.ensures in
    c.show.ensures.list ∙ (show_done c.args.self.now e.laid c.args.place c.in_ok-at.at e.held _ c.args.out.now).1
