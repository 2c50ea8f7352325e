-- The loop keeps: the edges of the first w words are gathered.
use Rattle.std.proofs.Common.{◌≡◌}
use Rattle.node.specs.Compacting.{left_to}
use Rattle.node.specs.Walking.{cut}
use Rattle.node.specs.Words.{marked_in}
use Rattle.node.proofs.rows.Rows.without_excluded.Given as goal

abbrev pub invariant-loop-w : goal.invariant-loop-w
invariant-loop-w l = l.into ≡ left_to (marked_in l.self.m l.self.words.now l.g) (cut l.self.m l.w 0)
