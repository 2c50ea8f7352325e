-- A read goes on where the last one ended.
use Rattle.std.proofs.Common.{rules}
use Rattle.intake.proofs.Filled.{Consumes-filled, Consumes-left}
use Rattle.intake.proofs.read_full.Goals as goal
use Rattle.intake.proofs.read_full.Goals.{in-Ok, in-Err}

pub loop-preserved : goal.loop-preserved
loop-preserved g c =
    let within = c.loop.invariant.0 in
    let filled = c.loop.invariant.1 in
    elim c.match-read.branch [
      | in-Ok w ↦ (search rules, Consumes-filled _ _ _ _ _ _ _ _ within w.in-Ok.ensures.bound.0 w.at-is filled w.in-Ok.ensures.bytes.0)
      | in-Err w ↦ (search rules, Consumes-left _ _ _ _ _ _ _ within w.at-is filled w.in-Err.ensures.bytes)
    ]
