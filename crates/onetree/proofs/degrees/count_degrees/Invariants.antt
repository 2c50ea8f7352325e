-- The loop keeps: the degrees in the edges that are met.
use Rattle.std.proofs.Common.{length}
use Rattle.tours.specs.Counted.{DegreesTo}
use Rattle.onetree.proofs.degrees.count_degrees.Given as goal

abbrev pub invariant-loop-a : goal.invariant-loop-a
invariant-loop-a l = DegreesTo (length l.yielded) l.valid.graph.now l.tree l.degrees
