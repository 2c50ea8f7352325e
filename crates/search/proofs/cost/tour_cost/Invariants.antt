-- The loop keeps: the sum is that of the first k edges that are in.
use Rattle.search.specs.Runs.Costs.{CostTo}
use Rattle.search.proofs.cost.tour_cost.Given as goal

abbrev pub invariant-loop-k : goal.invariant-loop-k
invariant-loop-k l = CostTo l.k l.valid.graph.now l.w l.sum
