-- An edge more has its best.
use Rattle.std.proofs.Common.{arith, refl, true, ◌≡◌, ℕ, get_or, length, subst}
use Rattle.onetree.specs.Picks.{no_pick, PicksTo, picks_none, picks_more, costs_by}
use Rattle.onetree.proofs.picks.Circles.pick_inside.Goals as goal

pub loop-j-init : goal.loop-j-init
loop-j-init c = λ outs b. picks_none _ _ _ _ _ _ c.requires.1

pub loop-j-preserved : goal.loop-j-preserved
loop-j-preserved c =
    let l = c.loop-j in
    λ outs b.
    let best = rw (← c.from-k.ensures) at (b.each l.j (omega arith)) in
    rw (c.settle.ensures.0, c.settle.ensures.1)
    (picks_more _ _ _ _ _ _ _ l.j (l.invariant outs b) c.told-picks c.from-k.result c.from-k.ensures
    (rw c.from-k.ensures (c.requires.0.early l.j (omega arith))) _ best _ (costs_by c.args.self.now.swapping true outs c.from-k.result (get_or c.args.bests.now l.j no_pick) best) _ _ refl refl)

pub returns : goal.returns
returns c = λ outs b.
    let e : c.loop-j.j ≡ length c.args.self.now.ins.now = omega (arith, c.loop-j.auto.j-end, c.loop-j-test.false) in
    subst (λ (n : ℕ). PicksTo c.args.self.now.swapping true c.args.self.now.ins.now outs c.args.picks.now c.loop-j.picks c.loop-j.lows n) e
    (c.loop-j.invariant outs b)
