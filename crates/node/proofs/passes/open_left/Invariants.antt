-- The loop keeps: nothing is done yet, or the node has no fault and the passes that are left come to what its passes do; and while a fault can
-- still be told, the lists are as they were.
use Rattle.std.proofs.Common.{◌≡◌, ◌⊎◌, ◌≤◌}
use Rattle.node.specs.Marks.{with_bytes}
use Rattle.node.specs.Given.{fault}
use Rattle.node.specs.Opened.{taken}
use Rattle.node.specs.Refusing.{AtTurn}
use Rattle.node.proofs.passes.open_left.Given as goal

abbrev pub invariant-loop-left : goal.invariant-loop-left
invariant-loop-left l = record {
  turn : AtTurn l.fn.g l.multipliers l.settings l.left l.g.mark l.d;
  marks_alone : l.g ≡ with_bytes l.fn.g l.g.mark;
  hint : l.live ≤ 190;
  lists : (fault (taken l.fn.g l.multipliers l.settings) ≡ 0) ⊎ (l.lists ≡ l.fn.lists);
}
