-- What the node carries, read as its definition reads it.
use Rattle.std.proofs.Common.{pos, subst, List, ℤ}
use Rattle.lists.specs.Bools.{Says}
use Rattle.search.specs.Canonical.{Zeros}
use Rattle.search.specs.Record.{multipliers_at}
use Rattle.search.proofs.record.zero_past.Goals as goal

pub returns : goal.returns
unfolding multipliers_at
returns c = subst (λ (d : List ℤ). Says c.zero_from.result (Zeros (pos 0) 20 c.args.n d)) (c.get-d.ensures (pos 0)) c.zero_from.ensures
