-- The loop keeps: the first i edges are sailed (specs/Steps).
use Rattle.std.proofs.Common.{◌≡◌, length}
use Rattle.simulation.specs.Steps.{SailedTo}
use Rattle.simulation.proofs.Simulation.sail.Given as goal

abbrev pub invariant-loop-i : goal.invariant-loop-i
invariant-loop-i l = (length l.times ≡ length l.initial.times) × SailedTo l.self.g.now.cost l.self.edges.now l.self.student l.self.spread l.i l.times l.total l.state
