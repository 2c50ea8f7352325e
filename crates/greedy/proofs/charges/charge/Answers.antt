-- q times the cost is the number of 64 bits that the code makes of it.
use Rattle.std.proofs.Common.{arith}
use Rattle.integers.specs.Multiples.{◌times◌}
use Rattle.integers.specs.Parts.{mag_of_parts}
use Rattle.integers.specs.Words.{back32, back64, low64}
use Rattle.greedy.specs.Charging.{raise_three}
use Rattle.greedy.specs.Fits.{scaled_range}
use Rattle.greedy.proofs.charges.charge.Goals as goal

pub returns : goal.returns
returns c =
    let a = c.args in
    let r = scaled_range a.q.q a.q.fits a.cost c.requires.0 in
    let cost = rw (back32 a.cost (c.ranges.cost.sfits)) at c.from.ensures in
    let e = rw (back64 c.from.result c.from.type_inv, cost, low64 a.q.q (omega (arith, a.q.fits)), back64 (a.q.q times a.cost) (mag_of_parts (a.q.q times a.cost) _ (omega (arith, r.high)) (omega (arith, r.low)))) at c.raised.ensures in
    let f = rw (back64 c.into.result c.into.type_inv, c.into.ensures, back32 a.x c.ranges.x.sfits) at c.raised-2.ensures in
    let h = rw (back64 c.into-2.result c.into-2.type_inv, c.into-2.ensures, back32 a.y c.ranges.y.sfits) at c.raised-3.ensures in
    (raise_three (a.q.q times a.cost) a.x a.y _ _ _ e.0 f.0 h.0, omega arith, omega (arith, e.1, f.1, h.1))
