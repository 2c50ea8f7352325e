-- The loop: what hangs keeps `Hung`, the queue has all of it, and where the lists of those visited lead hangs.
use Rattle.std.proofs.Common.{ℕ, ◌≤◌, ◌-◌}
use Rattle.swaps.specs.Visiting.{Rows, Hung, Lined, Closed}
use Rattle.onetree.specs.HungTree.{rooting_of, queue_of, count_of}
use Rattle.onetree.proofs.rooted.Rooting.walk.Given as goal

abbrev pub invariant-loop-x : goal.invariant-loop-x
invariant-loop-x l = (l.i ≤ count_of l.self) × Lined l.self.depth (queue_of l.self) (count_of l.self)
    × ((n : ℕ) → 2 ≤ n → Rows l.ends.from l.ends.to n l.listed.rows
    → Hung l.ends.from l.ends.to l.listed.rows n (rooting_of l.self))
    × Closed l.ends.from l.ends.to l.listed.rows l.self.depth (queue_of l.self) l.i

abbrev pub decreases-loop-x : goal.decreases-loop-x
decreases-loop-x l = 21 - l.i
