-- An edge more has its best.
use Rattle.std.proofs.Common.{arith, refl, false}
use Rattle.onetree.specs.Picks.{picks_none, picks_more, costs_by}
use Rattle.onetree.specs.Masks.{bests_none, bests_more}
use Rattle.onetree.proofs.picks.Circles.pick_outside.Goals as goal

pub loop-e-init : goal.loop-e-init
loop-e-init c = (picks_none _ _ _ _ _ _ c.requires.3, bests_none _ _ _ _ c.requires.0.few c.requires.2)

pub loop-e-preserved : goal.loop-e-preserved
loop-e-preserved c =
    let l = c.loop-e in
    let best = c.offer-pick.ensures.0 in (
      rw (c.settle.ensures.0, c.settle.ensures.1)
          (picks_more _ _ _ _ _ _ _ l.e-index l.invariant.0 c.told-picks c.from-k.result c.from-k.ensures
          (rw c.from-k.ensures (c.requires.1 l.e-index (omega arith))) c.offer-pick.result best _ (costs_by c.args.self.now.swapping false c.args.self.now.ins.now c.from-k.result c.offer-pick.result best) _ _ refl refl),
      bests_more _ _ _ _ _ l.e-index c.from-k.result l.invariant.1 c.from-k.ensures c.offer-pick.ensures.1,
    )
