-- The machine's answers to the three calls: `answer-refused` and `answer-told`. A signed local is held as its bits.
use Rattle.std.proofs.Common.{◌≡◌, sym, ap, ◌∙◌, rules}
use Rattle.std.proofs.lemmas.Result.{err_from_is_err_and}
use Rattle.integers.specs.Words.{back64}
use Rattle.machine.specs.Calls.{opens, run, is_accepted}
use Rattle.search.specs.Record.{fresh}
use Rattle.search.specs.Replies.{reply}
use Rattle.reports.specs.Searching.{plain_opening, budget}
use Rattle.reports.specs.ThreeCalls.{answer-refused, answer-told}
use Rattle.reports.proofs.searching.last_answer.Goals as goal

pub returns-in_err-open : goal.returns-in_err-open
returns-in_err-open c =
    let ceiling = back64 c.args.input.now.ceiling (search (rules, c.well_formed)) in
    let o = plain_opening c.args.input.now.ceiling c.args.input.now.graph in
    let p = err_from_is_err_and c.from_residual.result c.from_residual.ensures.1 in
    let said = rw (c.fresh-search.ensures, ceiling, c.multipliers.ensures, c.ashore.ensures) at c.in_err-open.ensures.answer in
    rw (p.1, p.2) (said ∙ answer-refused o (ap is_accepted (sym said)))

pub returns : goal.returns
returns c =
    let ceiling = back64 c.args.input.now.ceiling (search (rules, c.well_formed)) in
    let o = plain_opening c.args.input.now.ceiling c.args.input.now.graph in
    let said = rw (c.fresh-search.ensures, ceiling, c.multipliers.ensures, c.ashore.ensures) at c.in_ok-open.ensures.answer in
    let opened : c.open.new.self ≡ (reply fresh (opens o)).search = rw (c.fresh-search.ensures, ceiling, c.multipliers.ensures, c.ashore.ensures) at c.open.ensures.left in
    let ran : c.run-ran.new.self ≡ (reply (reply fresh (opens o)).search (run budget)).search = rw opened at c.run-ran.ensures.left in
    (rw ran at c.tell.ensures.answer) ∙ answer-told o (ap is_accepted (sym said))
