-- The loop keeps: how far the word's bits are walked, and both words packed up to there.
use Rattle.node.specs.Walking.{Upto}
use Rattle.node.specs.Words.{kept_in}
use Rattle.node.proofs.Loops.{PackedTo}
use Rattle.node.proofs.rows.Rows.pack_word.Given as goal

abbrev pub invariant-loop-x : goal.invariant-loop-x
invariant-loop-x l =
    Upto (kept_in l.self.m l.self.words.now) l.self.m l.w (PackedTo l.self.m l.w l.self.words.now l.marks l.required l.excluded) l.x l.next

abbrev pub decreases-loop-x : goal.decreases-loop-x
decreases-loop-x l = l.x
