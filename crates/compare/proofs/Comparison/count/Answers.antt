-- The two calls on a fresh record, as the machine answers them (specs/TwoCalls).
use Rattle.std.proofs.Common.{ap, ◌∙◌, Option, ℕ, rules}
use Rattle.std.specs.Option.{unwrap_or}
use Rattle.integers.specs.Words.{back64}
use Rattle.machine.specs.Calls.{opens, run}
use Rattle.machine.specs.Machine.{opening_of}
use Rattle.search.specs.Replies.{reply}
use Rattle.search.specs.declared.Search.{Search}
use Rattle.compare.specs.Comparison.{settings_of, finished_in}
use Rattle.compare.specs.TwoCalls.{counted, or_zero}
use Rattle.compare.proofs.Comparison.count.Goals as goal

pub returns : goal.returns
returns c =
    let a = c.args.self.now in
    let o = opening_of a.g.now a.multipliers.now a.ashore.now (settings_of a.terms c.args.sweeps c.args.step) in
    let budget = a.terms.budget in
    let left = rw (back64 a.terms.ceiling (search (rules, c.well_formed))) at c.open-opened.ensures.left in
    let finished =
    c.count_in.ensures
    ∙ ap finished_in (c.run.ensures.answer
    ∙ ap (λ (s : Search). (reply s (run budget)).answer) (left ∙ ap (λ (s : Search). (reply s (opens o)).search) c.fresh-s.ensures))
    ∙ counted o budget in
    record { finished = finished; reported = ap (λ (k : Option ℕ). unwrap_or k 0) finished ∙ or_zero o budget }
