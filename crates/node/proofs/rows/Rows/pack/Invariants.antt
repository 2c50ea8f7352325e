-- The loop keeps: the first w words of both rows are packed.
use Rattle.std.proofs.Common.{◌≡◌}
use Rattle.thinning.specs.Ranks.{rank}
use Rattle.node.specs.Walking.{cut}
use Rattle.node.specs.Words.{kept_in, new_byte, Packed}
use Rattle.node.proofs.rows.Rows.pack.Given as goal

abbrev pub invariant-loop-w : goal.invariant-loop-w
invariant-loop-w l = (l.f ≡ rank (kept_in l.self.m l.self.words.now) (cut l.self.m l.w 0)) × Packed l.self.m (new_byte l.self.m l.self.words.now l.marks) l.w l.r
