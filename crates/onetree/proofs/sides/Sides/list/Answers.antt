-- A bit more.
use Rattle.std.proofs.Common.{arith, refl}
use Rattle.onetree.specs.Masks.{overs_none, overs_near, overs_far, shifted}
use Rattle.onetree.proofs.sides.Sides.list.Goals as goal
use Rattle.onetree.proofs.sides.Sides.list.Goals.{then-swapping-i-eq1, else-swapping-i-eq1}

pub loop-j-init : goal.loop-j-init
loop-j-init c = rw c.requires.3 (overs_none _ _, refl)

pub loop-j-preserved : goal.loop-j-preserved
loop-j-preserved c =
    let l = c.loop-j in
    let small = shifted l.j (omega (arith, c.requires.2, c.loop-j-test.true)) in
    elim c.if-swapping-i-eq1.branch [
      | then-swapping-i-eq1 w ↦ rw (w.self-is, small)
          (overs_near _ _ _ _ _ l.invariant.0 (rw c.from-i.ensures at w.if-swapping-i-eq1.true), l.invariant.1)
      | else-swapping-i-eq1 w ↦ rw (w.self-is, small) (
        overs_far _ _ _ _ _ l.invariant.0 (rw c.from-i.ensures at w.if-swapping-i-eq1.false) w.lower-v.result (rw c.from-i.ensures at w.lower-v.ensures.0)
            w.lower-v.ensures.1,
        l.invariant.1,
      )
    ]
