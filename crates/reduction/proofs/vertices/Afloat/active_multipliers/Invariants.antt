-- The loop keeps: the multipliers of those of the first k vertices that are afloat, as many as have a number.
use Rattle.std.proofs.Common.{◌≡◌}
use Rattle.thinning.specs.Ranks.{rank}
use Rattle.afloat.specs.Over.{ashore, active}
use Rattle.reduction.specs.Active.{ActiveTo}
use Rattle.reduction.proofs.vertices.Afloat.active_multipliers.Given as goal

abbrev pub invariant-loop-k : goal.invariant-loop-k
invariant-loop-k l = ActiveTo (ashore l.self.ashore.now) l.multipliers l.k l.d × (l.j ≡ rank (active (ashore l.self.ashore.now)) l.k)
