-- The loop keeps: how far the word's bits are walked, and that those edges are gathered.
use Rattle.node.specs.Walking.{Upto}
use Rattle.node.specs.Words.{kept_in}
use Rattle.node.proofs.Loops.{GatheredTo}
use Rattle.node.proofs.rows.Rows.gather_word.Given as goal

abbrev pub invariant-loop-t : goal.invariant-loop-t
invariant-loop-t l =
    Upto (kept_in l.self.m l.self.words.now) l.self.m l.w (GatheredTo l.self.m l.w l.self.words.now l.g l.initial.into.m l.into) l.t-iterator.0 l.f
