-- Each array in turn.
use Rattle.std.proofs.Common.{◌≡◌, ◌≤◌, length, rules, arith, pos}
use Rattle.search.specs.Trimming.{cleared, trimmed_is}
use Rattle.search.proofs.opening.trim.Goals as goal

pub returns : goal.returns
returns c =
    let g = c.args.g.now in
    let few : c.from-m.result ≤ 190 = omega (arith, c.from-m.ensures, c.requires) in
    let a : length g.a ≡ 190 = search (rules, c.well_formed) in
    let b : length g.b ≡ 190 = search (rules, c.well_formed) in
    let cost : length g.cost ≡ 190 = search (rules, c.well_formed) in
    let mark : length g.mark ≡ 190 = search (rules, c.well_formed) in
    trimmed_is g c.from-m.result _ _ _ _ c.from-m.ensures
    (cleared 0 _ g.a _ few a (c.fill.ensures.after (λ y e. e)))
    (cleared 0 _ g.b _ few b (c.fill-2.ensures.after (λ y e. e)))
    (cleared (pos 0) _ g.cost _ few cost (c.fill-3.ensures.after (λ y e. e)))
    (cleared 0 _ g.mark _ few mark (c.fill-4.ensures.after (λ y e. e)))
