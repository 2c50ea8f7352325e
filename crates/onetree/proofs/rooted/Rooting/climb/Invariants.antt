-- Both loops keep `Climbing`; the inner one climbs with one end.
use Rattle.std.proofs.Common.{◌≡◌, ◌<◌, ◌⊎◌, ◌+◌, ◌*◌, get_or, ltb}
use Rattle.lists.specs.Bools.{bit}
use Rattle.swaps.specs.Hanging.{Hangs}
use Rattle.swaps.specs.RootedTree.{shape}
use Rattle.swaps.specs.Climbing.{Climbing}
use Rattle.onetree.proofs.rooted.Rooting.climb.Given as goal

abbrev pub invariant-loop-x : goal.invariant-loop-x
invariant-loop-x l = Hangs (shape l.self.parent l.self.depth)
    × Climbing (shape l.self.parent l.self.depth) (λ v. get_or l.self.weight v 0) l.fn.cheapest l.c l.from l.to l.x l.y l.top l.cheapest
    × ((get_or l.self.depth l.x 0 < get_or l.self.depth l.initial.x 0) ⊎ (l.x ≡ l.initial.x))

abbrev pub decreases-loop-x : goal.decreases-loop-x
decreases-loop-x l = get_or l.self.depth l.x 0

abbrev pub invariant-walk : goal.invariant-walk
invariant-walk l = Hangs (shape l.self.parent l.self.depth)
    × Climbing (shape l.self.parent l.self.depth) (λ v. get_or l.self.weight v 0) l.initial.cheapest l.c l.from l.to l.x l.y l.top l.cheapest

abbrev pub decreases-walk : goal.decreases-walk
decreases-walk l = 2 * (get_or l.self.depth l.x 0 + get_or l.self.depth l.y 0) + bit (ltb (get_or l.self.depth l.x 0) (get_or l.self.depth l.y 0))
