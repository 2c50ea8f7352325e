-- The loop keeps: what `met` says of the places met.
use Rattle.std.proofs.Common.{ℕ, ◌≤◌, ◌<◌, get_or, not}
use Rattle.lists.specs.Bools.{Says}
use Rattle.search.proofs.record.bits.Given as goal

abbrev pub invariant-loop-x : goal.invariant-loop-x
invariant-loop-x l = Says (not l.met) ((k : ℕ) → k < l.x-index → get_or l.a k 0 ≤ 1)
