-- The first places of a longer list of zeros.
use Rattle.std.proofs.lemmas.List.{take-replicate}
use Rattle.graph.specs.Limits.{max_vertices}
use Rattle.reports.proofs.input.Input.ashore.Goals as goal

pub returns : goal.returns
returns c = let graph = c.args.self.now.graph in rw c.from.ensures (take-replicate graph.n max_vertices 0 c.args.self.now.valid.high)
