-- An edge at vertex 1, another outside the tree, and one that is passed over.
use Rattle.std.proofs.Common.{◌<◌, ◌∙◌, arith}
use Rattle.std.proofs.lemmas.List.{map-set}
use Rattle.swaps.specs.Swaps.{ends_hang}
use Rattle.onetree.specs.Answers.{byte_of}
use Rattle.onetree.specs.Ruled.{keep_bytes}
use Rattle.onetree.specs.Outside.{outside_none, outside_skip, outside-near, outside-far}
use Rattle.onetree.proofs.rulings.Judging.outside.Goals as goal
use Rattle.onetree.proofs.rulings.Judging.outside.Goals.{then-g-k-eq-FREE+then-g-k-eq1, then-g-k-eq-FREE+else-g-k-eq1+then-lists-k-ne1}
use Rattle.onetree.proofs.rulings.Judging.outside.Goals.{then-g-k-eq-FREE+else-g-k-eq1+else-lists-k-ne1, else-g-k-eq-FREE}

pub loop-k-init : goal.loop-k-init
loop-k-init c = let p = c.requires in rw (p.1, p.2, keep_bytes) (outside_none _ _ _ _ _ _ _ p.0.ready.rooted)

pub climb-top-requires : goal.climb-top-requires
climb-top-requires c =
    let j = c.requires.0 in
    let here : c.loop-k.k < c.args.self.now.tree.graph.now.m = omega arith in
    let ends = ends_hang c.args.self.now.tree.graph.now j.ready.valid c.args.self.now.tree.lists.now.tree j.ready.tree _ _ j.ready.rooted c.loop-k.k here c.if-g-k-eq1.false in
    (j.ready.rooted.hangs, rw (c.from-from.ensures ∙ j.labelled.one c.loop-k.k here) ends.0, rw (c.from-to.ensures ∙ j.labelled.two c.loop-k.k here) ends.1)

pub loop-k-preserved : goal.loop-k-preserved
loop-k-preserved c =
    let j = c.requires.0 in
    let here : c.loop-k.k < c.args.self.now.tree.graph.now.m = omega arith in
    let skip = outside_skip _ _ _ _ _ _ _ _ j.ready _ _ _ _ here c.loop-k.invariant in
    elim c.if-g-k-eq-FREE.branch [
      | then-g-k-eq-FREE+then-g-k-eq1 w ↦ rw (w.res-is, w.cheapest-is, map-set byte_of c.loop-k.res c.loop-k.k _) (outside-near _ _ _ _ _ _ _ _ j.ready _ _ _ _ here c.loop-k.invariant _
          w.if-g-k-eq1.true w.if-g-k-eq-FREE.true w.ruling.ensures)
      | then-g-k-eq-FREE+else-g-k-eq1+then-lists-k-ne1 w ↦ rw (w.res-is, w.cheapest-is, map-set byte_of c.loop-k.res c.loop-k.k _) (outside-far _ _ _ _ _ _ _ _ j.ready _ _ _ _ here c.loop-k.invariant _ _ _
          w.if-g-k-eq1.false w.if-lists-k-ne1.true w.if-g-k-eq-FREE.true
          (rw (w.from-from.ensures ∙ j.labelled.one c.loop-k.k here, w.from-to.ensures ∙ j.labelled.two c.loop-k.k here) at w.climb-top.ensures)
          w.bar.ensures)
      | then-g-k-eq-FREE+else-g-k-eq1+else-lists-k-ne1 w ↦ rw (w.res-is, w.cheapest-is) (skip (λ e. (w.if-g-k-eq1.false, w.if-lists-k-ne1.false)))
      | else-g-k-eq-FREE w ↦ rw (w.res-is, w.cheapest-is) (skip (λ e. absurd (w.if-g-k-eq-FREE.false e)))
    ]
