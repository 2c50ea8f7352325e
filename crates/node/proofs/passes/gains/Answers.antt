-- Vertex by vertex: those from v on have not gained yet.
use Rattle.std.proofs.Common.{◌<◌, pos, get_or, arith}
use lib.Signed.{mag}
use Rattle.integers.specs.Words.{back32}
use Rattle.node.specs.Gains.{gains_more}
use Rattle.node.proofs.passes.gains.Goals as goal

pub loop-v-preserved : goal.loop-v-preserved
loop-v-preserved c = let l = c.loop-v in
    let fits : mag (get_or l.d l.v (pos 0)) < 2147483648 = omega arith in
    let e =
    rw (
      back32 (get_or l.d l.v (pos 0)) fits,
      back32 c.gain.result c.gain.type_inv,
      c.gain.ensures.value,
      l.invariant.rest l.v (omega arith),
    ) at c.gained.ensures
    in
    rw (back32 c.gained.result c.gained.type_inv) (gains_more l.v c.args.step _ _ l.d c.gained.result (omega arith) (omega arith) e l.invariant)
