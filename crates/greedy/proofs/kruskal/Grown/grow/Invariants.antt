-- The loop keeps `ChoiceSoFar` and `Lacking`.
use Rattle.std.proofs.Common.{◌≤◌, ◌-◌, length}
use Rattle.graph.specs.Network.{network}
use Rattle.greedy.specs.ChoiceSoFar.{ChoiceSoFar, Lacking}
use Rattle.greedy.proofs.kruskal.Grown.grow.Given as goal

abbrev pub invariant-loop-next : goal.invariant-loop-next
invariant-loop-next l = record {
  from : l.initial.next ≤ l.next;
  to : l.next ≤ length l.keys;
  choice : ChoiceSoFar (network l.charged.graph.now) l.charged.charges.now l.keys l.next l.self.labels l.tree l.far l.sum;
  lacking : Lacking (network l.charged.graph.now) l.keys l.enough l.initial.next l.next;
}

abbrev pub decreases-loop-next : goal.decreases-loop-next
decreases-loop-next l = length l.keys - l.next
