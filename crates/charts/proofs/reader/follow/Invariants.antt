-- The loop keeps `Reached`; specs/ReadLoop.antt says what each answer then means.
use Prim.Native.Nat.{suc, ◌-◌}
use Rattle.graph.specs.Limits.{max_edges}
use Rattle.charts.specs.ReadLoop.{Reached}
use Rattle.charts.proofs.reader.follow.Given as goal

abbrev pub invariant-loop-k : goal.invariant-loop-k
invariant-loop-k l = Reached l.s l.met l.g l.k

abbrev pub decreases-loop-k : goal.decreases-loop-k
decreases-loop-k l = suc max_edges - l.g.m
