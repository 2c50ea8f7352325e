-- Before the first word there is no edge.
use Rattle.std.proofs.Common.{◌≡◌, arith}
use Rattle.lists.specs.Filling.{filling_none}
use Rattle.node.specs.Walking.{cut}
use Rattle.node.specs.Words.{kept_in, ranked_none}
use Rattle.node.proofs.rows.Rows.expand.Goals as goal

pub loop-w-init : goal.loop-w-init
loop-w-init c = let self = c.args.self.now in
    let z : cut self.m 0 0 ≡ 0 = omega arith in
    (ranked_none (kept_in self.m self.words.now) self.m, rw z (filling_none 0 190 _))
