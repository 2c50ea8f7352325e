-- The words of node p are read, tested, and the set bits of their required row counted.
use Rattle.std.proofs.Common.{rules, ℕ, ◌^◌, ◌<◌, get_or, Fits, w64}
use Rattle.lists.specs.Bools.{says_yes}
use Rattle.search.specs.Record.{rows_at}
use Rattle.search.specs.Checks.Loops.{says_fails}
use Rattle.search.specs.Checks.Rows.{node_words_lem, says_node}
use Rattle.search.proofs.record.node_fits.Goals as goal

pub returns-then-rows_fit : goal.returns-then-rows_fit
unfolding rows_at
returns-then-rows_fit c =
    let small : (i : ℕ) → i < 6 → get_or c.get-rows.result i 0 < 2 ^ 64 =
    λ i h. let f : Fits w64 (get_or c.get-rows.result i 0) = search rules in f.fits in
    says_node c.args.m c.args.p _ _ c.requires.0 (c.get-rows.ensures 0) small _ c.required_edges.ensures
    (says_yes c.rows_fit.result c.rows_fit.ensures c.if-rows_fit.true)

pub returns-else-rows_fit : goal.returns-else-rows_fit
unfolding rows_at
returns-else-rows_fit c =
    let small : (i : ℕ) → i < 6 → get_or c.get-rows.result i 0 < 2 ^ 64 =
    λ i h. let f : Fits w64 (get_or c.get-rows.result i 0) = search rules in f.fits in
    says_fails c.rows_fit.result c.rows_fit.ensures c.if-rows_fit.false
    (node_words_lem c.args.m c.args.p _ _ c.requires.0 (c.get-rows.ensures 0) small)
