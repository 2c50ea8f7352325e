-- The words of node p, read as its definition reads them.
use Rattle.std.proofs.Common.{subst, List, ℕ}
use Rattle.lists.specs.Bools.{Says}
use Rattle.search.specs.Checks.Struck.{Covers}
use Rattle.search.specs.Record.{rows_at}
use Rattle.search.proofs.record.node_excludes.Goals as goal

pub returns : goal.returns
unfolding rows_at
returns c = subst (λ (l : List ℕ). Says c.excludes.result (Covers l c.args.struck.now)) (c.get-rows.ensures 0) c.excludes.ensures
