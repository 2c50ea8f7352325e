-- The loop keeps: the first k edges are moved.
use Rattle.afloat.specs.Over.{ashore}
use Rattle.reduction.specs.Moved.{MovedEdges}
use Rattle.reduction.proofs.vertices.Afloat.reduced.Given as goal

abbrev pub invariant-loop-k : goal.invariant-loop-k
invariant-loop-k l = MovedEdges (ashore l.self.ashore.now) l.self.graph.now l.k l.g
