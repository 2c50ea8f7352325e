-- By the new numbers of its ends, as Moving has it.
use Rattle.std.proofs.Common.{◌∙◌, sym, ap, get_or, arith}
use Rattle.afloat.specs.Over.{ashore}
use Rattle.reduction.specs.Moving.{told_touched, told_free, moved_touched, moved_free}
use Rattle.reduction.proofs.vertices.Afloat.move_edge.Goals as goal

pub returns-then-touches : goal.returns-then-touches
returns-then-touches c =
    let me = c.args.self.now in
    let n = c.args.numbers.now in
    let t = told_touched (ashore me.ashore.now) me.graph.now me.valid n c.requires.numbered c.args.k c.requires.inside _ _
    (ap (λ i. get_or n i 0) c.from.ensures) (ap (λ i. get_or n i 0) c.from-2.ensures) (sym c.touches.ensures ∙ c.if-touches.true) in
    moved_touched (ashore me.ashore.now) me.graph.now c.args.g.now c.args.k (omega (arith, me.valid.few, c.requires.inside)) c.requires.before
    (omega arith, omega arith, omega arith) t

pub returns-else-touches : goal.returns-else-touches
returns-else-touches c =
    let me = c.args.self.now in
    let n = c.args.numbers.now in
    let t = told_free (ashore me.ashore.now) me.graph.now me.valid n c.requires.numbered c.args.k c.requires.inside _ _
    (ap (λ i. get_or n i 0) c.from.ensures) (ap (λ i. get_or n i 0) c.from-2.ensures) (sym c.touches.ensures ∙ c.if-touches.false) in
    moved_free (ashore me.ashore.now) me.graph.now c.args.g.now c.args.k (omega (arith, me.valid.few, c.requires.inside)) c.requires.before
    (omega arith, omega arith, omega arith) _ _ t.0 t.1 t.2
