-- The loop keeps `Table`: a free edge of the tree away from vertex 1 is listed at both ends, every other is skipped.
use Rattle.swaps.specs.TreeTable.{Table}
use Rattle.onetree.proofs.rooted.Listed.fill.Given as goal

abbrev pub invariant-loop-k : goal.invariant-loop-k
invariant-loop-k l = Table l.tree.graph.now l.tree.lists.now.tree l.ends.from l.ends.to l.self.rows l.self.count l.k
