use Rattle.std.proofs.Common.{get_or, pos, arith}
use Rattle.integers.specs.Words.{back32, back64}
use Rattle.greedy.specs.Charging.{raised-more}
use Rattle.greedy.proofs.charges.total.Goals as goal

pub loop-x-preserved : goal.loop-x-preserved
loop-x-preserved c =
    let l = c.loop-x in
    let x = c.raised-sum in
    let up = rw (back64 c.from.result c.from.type_inv, c.from.ensures, back32 (get_or c.args.multipliers.now l.x-index (pos 0)) (omega arith)) at x.ensures.0 in
    raised-more c.args.multipliers.now l.x-index x.result l.sum up x.ensures.1 l.invariant
