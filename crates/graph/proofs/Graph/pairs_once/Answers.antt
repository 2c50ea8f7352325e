-- Where each pair comes before the next one, none is there twice; specs/Rising.antt says so.
use Rattle.std.proofs.Common.{sym, ◌∙◌, rules}
use Rattle.graph.specs.CheckLoop.{Sizes}
use Rattle.graph.specs.Rising.{rising}
use Rattle.graph.proofs.Graph.pairs_once.Goals as goal

pub returns-then-pairs_rise : goal.returns-then-pairs_rise
returns-then-pairs_rise c =
    let g = c.args.self.now in
    let sizes : Sizes g = search (rules, c.well_formed) in
    rw c.if-pairs_rise.true (rising g c.requires.0 sizes c.requires.1 (sym c.pairs_rise.ensures ∙ c.if-pairs_rise.true))
