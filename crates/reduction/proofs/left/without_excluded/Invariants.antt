-- The loop keeps: those of the first k edges that are not excluded, and how many they are.
use Rattle.std.proofs.Common.{◌≡◌}
use Rattle.thinning.specs.Ranks.{rank}
use Rattle.reduction.specs.Left.{kept, LeftTo}
use Rattle.reduction.proofs.left.without_excluded.Given as goal

abbrev pub invariant-loop-k : goal.invariant-loop-k
invariant-loop-k l = LeftTo l.g l.k l.left × (l.f ≡ rank (kept l.g.mark) l.k)
