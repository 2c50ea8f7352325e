-- The graph's fault is the first.
use Rattle.std.specs.Prelude.{◌≡◌, Err}
use Rattle.std.proofs.Common.{ap, ◌∙◌, rules}
use Rattle.graph.specs.Meaning.{graph_refused}
use Rattle.graph.specs.Refusals.{fault_of}
use Rattle.sailing.specs.Simulation.{simulation_fault}
use Rattle.simulation.proofs.Simulation.fault.Goals as goal

pub returns-in_err-g : goal.returns-in_err-g
unfolding simulation_fault
returns-in_err-g c =
    let refusal = c.in_err-g.field-0.0 in
    let is : c.from_residual.result ≡ Err refusal = search rules in
    let p = graph_refused c.args.self.now.g.now refusal c.in_err-g.ensures.fault in
    rw p.0 (ap fault_of is ∙ p.1)
