-- The loop keeps: the sum is that of the multipliers before, each moved up.
use Rattle.greedy.specs.Charging.{Raised}
use Rattle.greedy.proofs.charges.total.Given as goal

abbrev pub invariant-loop-x : goal.invariant-loop-x
invariant-loop-x l = Raised l.multipliers l.x-index l.sum
