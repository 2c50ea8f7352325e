-- Before the first word there is no edge.
use Rattle.std.proofs.Common.{◌≡◌, ◌∙◌, arith}
use Rattle.node.specs.Compacting.{gathered_none}
use Rattle.node.specs.Walking.{cut}
use Rattle.node.specs.Words.{marked_in}
use Rattle.node.proofs.rows.Rows.without_excluded.Goals as goal

pub loop-w-init : goal.loop-w-init
loop-w-init c = let a = c.args in
    let z : cut a.self.now.m 0 0 ≡ 0 = omega arith in
    rw z (c.requires.blank ∙ gathered_none (marked_in a.self.now.m a.self.now.words.now a.g.now))
