-- The loop keeps `Visited`, whose steps are a neighbour to hang and one that hangs already.
use Rattle.std.proofs.Common.{◌≤◌}
use Rattle.swaps.specs.Visiting.{row_of, Visited}
use Rattle.onetree.specs.HungTree.{rooting_of, queue_of, count_of}
use Rattle.onetree.proofs.rooted.Rooting.visit.Given as goal

abbrev pub invariant-loop-e : goal.invariant-loop-e
invariant-loop-e l = (l.e-index ≤ 19)
    × Visited l.ends.from l.ends.to (row_of l.listed.rows l.x) l.x (rooting_of l.fn.self) (queue_of l.fn.self) (count_of l.fn.self)
    (rooting_of l.self) (queue_of l.self) (count_of l.self) l.e-index
