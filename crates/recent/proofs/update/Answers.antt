-- A fault before the log, one in it, or none; the costs are those that the loop leaves.
use Rattle.std.specs.Prelude.{◌≡◌, refl, length}
use Rattle.std.proofs.Common.{◌∙◌, sym, arith}
use Rattle.graph.specs.Refusals.{positive}
use Rattle.recent.specs.Costs.{log_of}
use Rattle.recent.specs.Answers.{first_fault, made, meaning, bad_from, unless_bad}
use Rattle.recent.specs.Windows.{unused, no_times}
use Rattle.recent.specs.Faults.{first_refused, first_leaves, first_fine, log_reply, log_leaves, made_leaves}
use Rattle.recent.proofs.update.Goals.{In_ok-valid}
use Rattle.recent.proofs.update.Goals as goal

no_first : (c : In_ok-valid) → first_fault c.args.g.now c.args.w (length c.args.edges.now) (length c.args.times.now) ≡ 0
no_first c = grind arith

pub returns-in_err-valid : goal.returns-in_err-valid
unfolding meaning
returns-in_err-valid c = (grind (arith, positive, first_refused), grind (arith, positive, first_leaves))

pub replay-requires : goal.replay-requires
unfolding unused no_times
replay-requires c =
    let a = c.args in
    let none = no_first (goal.at.replay-requires c).In_ok-valid in
    ((first_fine a.g.now a.w a.edges.now a.times.now none).1, refl)

pub returns-in_err-replay : goal.returns-in_err-replay
unfolding meaning
returns-in_err-replay c =
    let a = c.args in
    let none = no_first (goal.at.returns-in_err-replay c).In_ok-valid in
    let same = c.in_ok-valid.ensures.same in
    let stops = (rw same.0 at c.replay.ensures.stops) in
    (grind (arith, log_reply), grind (arith, log_leaves))

pub returns : goal.returns
unfolding meaning unused
returns c =
    let a = c.args in
    let none = no_first (goal.at.returns c).In_ok-valid in
    let same = c.in_ok-valid.ensures.same in
    let done = rw (same.0, same.1) at c.replay.ensures in
    let stops = done.stops in
    let told : made ≡ unless_bad (bad_from a.g.now.m 1 (log_of a.edges.now a.times.now)) = grind arith in (
      told ∙ sym (log_reply a.g.now a.w a.edges.now a.times.now none),
      made_leaves a.g.now a.w a.edges.now a.times.now none told _ done.afresh,
    )
