-- Where there is a place (specs/Cases): the check finds the rest.
use Rattle.std.proofs.Common.{◌≡◌, length, ap, arith, rules}
use Rattle.lists.specs.Rows.{long_of}
use Rattle.search.specs.Record.{fresh}
use Rattle.search.specs.Replies.{Outcome}
use Rattle.shelf.specs.Cases.{back_accepted}
use Rattle.shelf.proofs.Shelf.back.Goals as goal

pub returns-clause-answer : goal.returns-clause-answer
returns-clause-answer c =
    let e = c.in_ok-at.ensures in
    let long : length c.args.self.now.places ≡ 8 = search (rules, long_of) in
    ap (λ (o : Outcome). o.answer) (back_accepted _ _ _ c.in_ok-at.at fresh (omega (arith, e.2, long)) e.0 e.1)
