-- The loop keeps: none below word w is free.
use Rattle.node.specs.Walking.{cut}
use Rattle.node.specs.Words.{NoneBelow}
use Rattle.node.proofs.rows.Rows.first_free.Given as goal

abbrev pub invariant-loop-w : goal.invariant-loop-w
invariant-loop-w l = NoneBelow l.self.m l.self.words.now (cut l.self.m l.w 0)
