-- The loop keeps: the first k edges have their bytes, and how many of them are not excluded.
use Rattle.std.proofs.Common.{◌≡◌, suc}
use Rattle.lists.specs.FilledFrom.{Updated}
use Rattle.thinning.specs.Ranks.{rank}
use Rattle.reduction.specs.Left.{kept, expanded}
use Rattle.reduction.proofs.left.expand.Given as goal

abbrev pub invariant-loop-k : goal.invariant-loop-k
invariant-loop-k l = Updated (λ j. expanded l.g l.bytes l.rest (suc j)) l.initial.out l.out l.k × (l.f ≡ rank (kept l.g.mark) l.k)
