-- The loop keeps: what the walk says from this place on, with the flags as they are, is what it says of the whole list.
use Rattle.std.proofs.Common.{◌≡◌, ◌+◌, length}
use Rattle.graph.specs.Limits.{max_vertices}
use Rattle.graph.specs.Network.{network}
use Rattle.simulation.specs.Steps.{WalkedTo}
use Rattle.simulation.proofs.in_order.Given as goal

abbrev pub invariant-loop-k : goal.invariant-loop-k
invariant-loop-k l = (length l.met ≡ max_vertices + 1) × WalkedTo (network l.g.graph.now) l.edges l.met l.at l.k-index
