-- The sum fits, and the clamp is std's.
use Rattle.std.proofs.Common.{◌+ℤ◌, SFits, w32}
use mir.Facts.{to_z-of_z}
use Rattle.node.specs.Gains.{sum_fits, held}
use Rattle.node.proofs.passes.gained.Goals as goal

pub returns : goal.returns
returns c =
    let fits = sum_fits c.args.x c.args.gain c.requires.multiplier c.requires.gain in
    let e = rw (to_z-of_z c.ranges.x, to_z-of_z c.ranges.gain, to_z-of_z fits) at c.clamp.ensures.value in
    let small : SFits w32 c.clamp.result = record { sfits = c.clamp.type_inv } in
    rw (to_z-of_z small) (held (c.args.x +ℤ c.args.gain) c.clamp.result e)
