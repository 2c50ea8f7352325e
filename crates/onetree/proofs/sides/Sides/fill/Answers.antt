-- A label more.
use Rattle.onetree.specs.Masks.{sided_none, sided_more}
use Rattle.onetree.proofs.sides.Sides.fill.Goals as goal

pub loop-x-init : goal.loop-x-init
loop-x-init c = (sided_none _ _ _ _ _ c.list.ensures.0 c.list.ensures.1, c.list.ensures.0)

pub loop-x-preserved : goal.loop-x-preserved
loop-x-preserved c =
    let l = c.loop-x in
    (sided_more _ _ _ _ l.x _ c.loop-x-test.true l.invariant.0 (c.climb.ensures _ l.invariant.1), l.invariant.1)
