-- The loop keeps: the first k marks are those of the rulings, and past m there is none.
use Rattle.std.proofs.Common.{◌≡◌, get_or}
use Rattle.lists.specs.Filling.{Renewing}
use Rattle.onetree.specs.Answers.{ruling_bytes}
use Rattle.node.specs.Marking.{mark_byte}
use Rattle.node.specs.Marks.{with_bytes}
use Rattle.node.proofs.passes.apply.Given as goal

abbrev pub invariant-loop-k : goal.invariant-loop-k
invariant-loop-k l = record {
  marks : Renewing 0 190 l.fn.g.m l.k (λ j. mark_byte (get_or (ruling_bytes l.rulings) j 0)) l.g.mark;
  marks_alone : l.g ≡ with_bytes l.fn.g l.g.mark;
}
