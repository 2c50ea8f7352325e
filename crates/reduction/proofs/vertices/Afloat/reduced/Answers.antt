-- Edge by edge; then the vertices are counted.
use Rattle.std.proofs.Common.{◌∙◌, arith}
use Rattle.thinning.specs.Ranks.{rank_most}
use Rattle.afloat.specs.Over.{ashore, active}
use Rattle.afloat.specs.Inputs.{ashore_zero}
use Rattle.afloat.specs.Reduced.{count_is}
use Rattle.reduction.specs.Moved.{moved_network}
use Rattle.reduction.specs.Moving.{moved_none, moved_all}
use Rattle.reduction.proofs.vertices.Afloat.reduced.Goals as goal

pub loop-k-init : goal.loop-k-init
loop-k-init c = moved_none (ashore c.args.self.now.ashore.now) c.args.self.now.graph.now

pub overflow_cast-g : goal.overflow_cast-g
overflow_cast-g c =
    let s = ashore c.args.self.now.ashore.now in
    let n = c.args.self.now.graph.now.n in
    record { fits = omega (arith, c.active.ensures, count_is s n, rank_most (active s) n, c.args.self.now.valid.high) }

pub returns-clause-moved : goal.returns-clause-moved
returns-clause-moved c =
    let s = ashore c.args.self.now.ashore.now in
    let g = c.args.self.now.graph.now in
    moved_all s g c.loop-k.g c.loop-k.k _ (omega (arith, c.from-k-end.ensures)) (c.active.ensures ∙ count_is s g.n) c.loop-k.invariant

pub returns-clause-network : goal.returns-clause-network
returns-clause-network c =
    let s = ashore c.args.self.now.ashore.now in
    let g = c.args.self.now.graph.now in
    moved_network s (ashore_zero c.args.self.now.ashore.now) g _
    (moved_all s g c.loop-k.g c.loop-k.k _ (omega (arith, c.from-k-end.ensures)) (c.active.ensures ∙ count_is s g.n) c.loop-k.invariant)
