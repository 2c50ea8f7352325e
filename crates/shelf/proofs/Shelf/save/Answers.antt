-- Where there is a place (specs/Cases): the check finds the rest.
use Rattle.std.proofs.Common.{ap}
use Rattle.shelf.specs.Replies.{Saved}
use Rattle.shelf.specs.Cases.{save_accepted}
use Rattle.shelf.proofs.Shelf.save.Goals as goal

pub returns-clause-answer : goal.returns-clause-answer
returns-clause-answer c = let e = c.in_ok-at.ensures in ap (λ (o : Saved). o.answer) (save_accepted _ _ _ c.in_ok-at.at e.0 e.1)
