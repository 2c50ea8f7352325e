-- The window is the fold over the entries so far (specs/Replay).
use Rattle.std.specs.Prelude.{length}
use Rattle.recent.specs.Costs.{log_of}
use Rattle.recent.specs.Windows.{window_of}
use Rattle.recent.specs.Replay.{Replaying}
use Rattle.recent.proofs.replay.Given as goal

abbrev pub invariant-loop-i : goal.invariant-loop-i
invariant-loop-i l = Replaying l.w.places l.g.graph.now.m l.initial.costs (log_of l.edges l.times) (length l.yielded) (window_of l.rings l.costs)
