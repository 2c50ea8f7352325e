-- The sum of the words' set bits, each at most 64.
use Rattle.std.proofs.Common.{refl, ◌∙◌, take, length, get_or, ◌<◌, ◌^◌, ℕ, ◌≡◌, rules, tests, arith, Fits, w64}
use Rattle.std.specs.Int.Count.{ones}
use Rattle.std.proofs.lemmas.Iterator.{YieldsList-from_slice, YieldsList-from_map}
use Rattle.std.proofs.lemmas.Iterator.Consumers.{sum_from_yields_List, fits_from_yields_list}
use Rattle.search.specs.Checks.Rows.{ones_summed, ones_few}
use Rattle.search.proofs.record.required_edges.Goals as goal

pub sum-requires-clause-fits : goal.sum-requires-clause-fits
sum-requires-clause-fits c =
    let rows = c.args.rows.now in
    let long : length rows ≡ 6 = search (rules, c.well_formed) in
    let small : (i : ℕ) → get_or rows i 0 < 2 ^ 64 = λ i. let f : Fits w64 (get_or rows i 0) = search rules in f.fits in
    fits_from_yields_list _ _ (YieldsList-from_map _ ones (YieldsList-from_slice (take 3 rows) cc) refl (λ x r q k. search (rules, tests)))
    (ones_few rows (omega (arith, long)) small)

pub returns : goal.returns
returns c =
    let rows = c.args.rows.now in
    let long : length rows ≡ 6 = search (rules, c.well_formed) in
    sum_from_yields_List _ _ c.sum.ensures.ran (YieldsList-from_map _ ones (YieldsList-from_slice (take 3 rows) cc) refl (λ x r q k. search (rules, tests)))
    ∙ ones_summed rows (omega (arith, long))
