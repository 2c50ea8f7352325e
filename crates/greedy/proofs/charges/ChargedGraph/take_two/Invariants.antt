-- The loop keeps `TwoTaken`, of the keys before.
use Rattle.std.proofs.Common.{◌≡◌, ◌≤◌, ◌+◌, ◌*◌, length}
use Rattle.graph.specs.Limits.{max_edges}
use Rattle.greedy.specs.Charged.{max_charge}
use Rattle.greedy.specs.ChoiceSoFar.{TwoTaken}
use Rattle.greedy.proofs.charges.ChargedGraph.take_two.Given as goal

abbrev pub invariant-loop-key : goal.invariant-loop-key
invariant-loop-key l = record {
  long : length l.tree ≡ max_edges;
  light : l.all ≤ l.sum + max_charge * length l.yielded;
  taken : TwoTaken l.self.charges.now l.keys (length l.yielded) l.initial.tree l.sum l.tree l.all;
}
