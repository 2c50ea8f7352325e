-- The loop keeps: the first k vertices have their numbers, of which this is the last.
use Rattle.std.proofs.Common.{◌≡◌}
use Rattle.thinning.specs.Ranks.{rank}
use Rattle.afloat.specs.Over.{ashore, active}
use Rattle.reduction.specs.Numbers.{Numbered}
use Rattle.reduction.proofs.vertices.Afloat.numbers.Given as goal

abbrev pub invariant-loop-k : goal.invariant-loop-k
invariant-loop-k l = Numbered (ashore l.self.ashore.now) l.k l.numbers × (l.last ≡ rank (active (ashore l.self.ashore.now)) l.k)
