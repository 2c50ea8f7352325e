-- A step of the climb, and its end.
use Rattle.lifting.specs.Loops.{way_start, way_room, way_keeps}
use Rattle.onetree.specs.Masks.{climb_first, climb_next, climb_last}
use Rattle.onetree.proofs.sides.Sides.climb.Goals as goal

pub loop-left-init : goal.loop-left-init
loop-left-init c = (way_start _ _ c.requires.0 c.args.x, λ ins h. climb_first _ _ _ _ h c.args.x)

pub loop-left-preserved : goal.loop-left-preserved
loop-left-preserved c =
    let l = c.loop-left in
    rw c.from-y.ensures (
      way_keeps _ _ c.requires.0 l.y l.left c.loop-left-test.true l.invariant.0,
      λ ins h. climb_next _ _ _ _ h c.args.x l.y l.left l.bits c.loop-left-test.true
          (way_room _ _ c.requires.0 l.y l.left c.loop-left-test.true l.invariant.0) (l.invariant.1 ins h),
    )

pub returns : goal.returns
returns c = λ ins h. climb_last _ _ _ _ h c.args.x _ _ _ c.loop-left-test.false (c.loop-left.invariant.1 ins h)
