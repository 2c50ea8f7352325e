-- The loop keeps: vertices 2 to v have gained.
use Rattle.node.specs.Gains.{GainsTo}
use Rattle.node.proofs.passes.gains.Given as goal

abbrev pub invariant-loop-v : goal.invariant-loop-v
invariant-loop-v l = GainsTo l.v l.step l.degrees l.initial.d l.d
