-- The loop keeps: the first k places have their charges, and past the edges stands what stood there.
use Rattle.std.proofs.Common.{◌≡◌, ℕ, ◌≤◌, length, get_or}
use Rattle.graph.specs.Limits.{max_edges}
use Rattle.greedy.specs.Charging.{ChargesOf}
use Rattle.greedy.proofs.checked.Checked.charge_each.Given as goal

abbrev pub invariant-loop-k : goal.invariant-loop-k
invariant-loop-k l = record {
  done : ChargesOf l.q.q l.self.graph.now l.self.multipliers.now l.charges l.k;
  rest : (k : ℕ) → l.self.graph.now.m ≤ k → get_or l.charges k 0 ≡ get_or l.initial.charges k 0;
  long : length l.charges ≡ max_edges;
}
