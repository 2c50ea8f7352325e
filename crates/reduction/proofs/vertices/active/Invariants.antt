-- The loop keeps: so many of the first k are afloat.
use Rattle.std.proofs.Common.{◌≡◌}
use Rattle.thinning.specs.Ranks.{rank}
use Rattle.afloat.specs.Over.{ashore, active}
use Rattle.reduction.proofs.vertices.active.Given as goal

abbrev pub invariant-loop-k : goal.invariant-loop-k
invariant-loop-k l = (l.count ≡ rank (active (ashore l.bytes)) l.k)
