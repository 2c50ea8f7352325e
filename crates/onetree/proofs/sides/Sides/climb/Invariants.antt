-- The climb has come to y, with `left` steps to go.
use Rattle.std.proofs.Common.{List, ℕ, length}
use Rattle.lifting.specs.Loops.{OnPath}
use Rattle.onetree.specs.Masks.{Overs, Climb}
use Rattle.onetree.proofs.sides.Sides.climb.Given as goal

abbrev pub invariant-loop-left : goal.invariant-loop-left
invariant-loop-left l = OnPath l.swapping.hung.now.depth l.y l.left
    × ((ins : List ℕ) → Overs l.swapping ins l.self.near l.self.over (length ins) → Climb l.swapping ins (length ins) l.x l.y l.left l.bits)

abbrev pub decreases-loop-left : goal.decreases-loop-left
decreases-loop-left l = l.left
