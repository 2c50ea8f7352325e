-- What the steps say of the graph; specs/CheckLoop.antt says what that makes of the check.
use Rattle.std.proofs.Common.{sym, ◌∙◌, rules}
use Rattle.graph.specs.CheckLoop.{Sizes, some_bad, steps_fit, ends_in_pairs, pairs_say}
use Rattle.graph.proofs.Graph.check.Goals as goal

pub pairs_once-requires : goal.pairs_once-requires
pairs_once-requires c =
    let g = c.args.self.now in
    let sizes : Sizes g = search (rules, c.well_formed) in
    let f = steps_fit g sizes (sym c.parts_fit.ensures ∙ c.if-parts_fit.true) in
    (f.0.few, ends_in_pairs g f.0 f.1)

pub returns-then-parts_fit : goal.returns-then-parts_fit
returns-then-parts_fit c =
    let g = c.args.self.now in
    let sizes : Sizes g = search (rules, c.well_formed) in
    let f = steps_fit g sizes (sym c.parts_fit.ensures ∙ c.if-parts_fit.true) in
    pairs_say g f.0 f.1 f.2 c.pairs_once.result c.pairs_once.ensures

pub returns-else-parts_fit : goal.returns-else-parts_fit
returns-else-parts_fit c =
    let g = c.args.self.now in
    let sizes : Sizes g = search (rules, c.well_formed) in
    c.if-parts_fit.false ∙ sym (some_bad g sizes (sym c.parts_fit.ensures ∙ c.if-parts_fit.false))
