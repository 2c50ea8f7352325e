-- The loop keeps: how far the word's bits are walked, and the bytes of those edges put at their places.
use Rattle.node.specs.Walking.{Upto}
use Rattle.node.specs.Words.{kept_in}
use Rattle.node.proofs.Loops.{PutTo}
use Rattle.node.proofs.rows.Rows.expand_word.Given as goal

abbrev pub invariant-loop-t : goal.invariant-loop-t
invariant-loop-t l =
    Upto (kept_in l.self.m l.self.words.now) l.self.m l.w (PutTo l.self.m l.w l.self.words.now l.bytes l.all) l.t-iterator.0 l.next
