-- The loop keeps: of the first w words f edges are left, and their bytes stand at their places.
use Rattle.std.proofs.Common.{◌≡◌}
use Rattle.mark_rows.specs.MarkRows.{marks_in_rows}
use Rattle.thinning.specs.Ranks.{rank}
use Rattle.node.specs.Expanding.{ExpandedTo}
use Rattle.node.specs.Marks.{bytes_of}
use Rattle.node.specs.Walking.{cut}
use Rattle.node.specs.Words.{kept_in}
use Rattle.node.proofs.rows.Rows.expand.Given as goal

abbrev pub invariant-loop-w : goal.invariant-loop-w
invariant-loop-w l =
    (l.f ≡ rank (kept_in l.self.m l.self.words.now) (cut l.self.m l.w 0))
    × ExpandedTo (bytes_of (marks_in_rows l.self.m l.self.words.now)) l.bytes (cut l.self.m l.w 0) l.all
