-- Of a long list the search asks `within` of each, up to the first that fails; specs/AllWithin.antt says that this is the fold.
use Rattle.std.proofs.Common.{rules, tests, ◌∙◌}
use Rattle.std.proofs.lemmas.Iterator.{YieldsList-from_slice}
use Rattle.std.proofs.lemmas.Iterator.Search.{all_from_yields_List}
use Rattle.integers.specs.Range.{within}
use Rattle.graph.specs.Limits.{max_multiplier}
use Rattle.greedy.specs.AllWithin.{listed_within}
use Rattle.greedy.proofs.refusals.all_fit.Goals as goal

pub returns-then-multipliers-gt-MAX_VERTICES : goal.returns-then-multipliers-gt-MAX_VERTICES
returns-then-multipliers-gt-MAX_VERTICES c =
    let d = c.args.multipliers.now in
    all_from_yields_List (within max_multiplier) _ _ _ c.all.ensures.ran (YieldsList-from_slice d cc) (λ x b q k. search (rules, tests))
    ∙ listed_within max_multiplier d
