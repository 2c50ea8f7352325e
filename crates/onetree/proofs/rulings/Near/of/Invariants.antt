-- The loop keeps `NearIs`: an edge at vertex 1 that is free goes to the one side or the other.
use Rattle.onetree.specs.Candidates.{NearIs}
use Rattle.onetree.proofs.rulings.Near.of.Given as goal

abbrev pub invariant-loop-k : goal.invariant-loop-k
invariant-loop-k l = NearIs l.tree.graph.now.a l.tree.graph.now.mark l.tree.lists.now.tree l.tree.lists.now.charges l.near.dearest l.near.cheapest l.k
