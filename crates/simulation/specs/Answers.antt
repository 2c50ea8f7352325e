-- What the answer means: document 02's values, or a refusal's number, at place 0.
use Rattle.std.specs.Prelude.{Result, Ok, Err}
use Rattle.graph.specs.Refusals.{number}
use Rattle.graph.specs.declared.refusals.Refusal.{Refusal}
use Rattle.sailing.specs.Simulation.{Reply, sailed, refused}
use Rattle.simulation.specs.declared.Sailed.{Sailed}

unfoldable pub simulation_meaning : Result Sailed Refusal → Reply
simulation_meaning (Ok s) = sailed s.total s.state
simulation_meaning (Err refusal) = refused (number refusal) 0
