-- The loop keeps: the labels before it are done and the others as they were.
use Rattle.std.proofs.Common.{◌≡◌, length}
use Rattle.greedy.specs.Relabelling.{RelabelledTo}
use Rattle.greedy.proofs.kruskal.join.Given as goal

abbrev pub invariant-loop-z : goal.invariant-loop-z
invariant-loop-z l = (length l.labels ≡ 21) × RelabelledTo l.x l.y l.initial.labels l.labels l.z-index
