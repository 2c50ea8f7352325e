-- Edge by edge.
use Rattle.std.proofs.Common.{refl, ◌<◌, ◌+◌, ◌*◌, pos, get_or, ap, ◌∙◌, arith, rules}
use lib.Signed.{mag}
use Rattle.integers.specs.Words.{back32}
use Rattle.graph.specs.declared.Graph.{Graph}
use Rattle.node.specs.Compacting.{gathered_more}
use Rattle.thinning.specs.Ranks.{rank_most}
use Rattle.node.specs.Walking.{cut, upto_first, upto_last, upto_edge, upto_met, upto_more, place_fits, count_fits}
use Rattle.node.specs.Words.{kept_in, marked_in, kept-mark}
use Rattle.node.proofs.Loops.{gathered_first, gathered_skips, gathered_last}
use Rattle.node.proofs.rows.Rows.gather_word.Goals as goal

pub loop-t-init : goal.loop-t-init
loop-t-init c =
    let a = c.args in
    upto_first _ _ _ _ c.args.self.now.few _ _ _ c.into_iter-t-iterator.ensures.into_iter_gives c.live_word.ensures
    (c.from-f.ensures ∙ ap (λ (h : Graph). h.m) c.requires.before)
    (gathered_first _ a.w _ a.g.now _ c.requires.before)

pub prove-unreachable-requires : goal.prove-unreachable-requires
prove-unreachable-requires c =
    let next = c.in-Some.ensures.steps in
    omega (arith, c.if-prove.true, place_fits _ _ _ _ _ _ _ c.loop-t.invariant next.0 next.1)

pub prove-unreachable-requires-in-loop-t : goal.prove-unreachable-requires-in-loop-t
prove-unreachable-requires-in-loop-t c =
    omega (arith, c.if-prove-2.true, count_fits _ _ _ _ _ _ c.loop-t.invariant c.in-Some.ensures.steps.0)

pub loop-t-preserved : goal.loop-t-preserved
loop-t-preserved c =
    let a = c.args in
    let l = c.loop-t in
    let next = c.in-Some.ensures.steps in
    let e = upto_edge _ _ _ _ _ _ _ l.invariant _ next in
    let fits : mag (get_or a.g.now.cost (64 * a.w + c.in-Some.t) (pos 0)) < 2147483648 = search (rules, c.well_formed) in
    upto_more _ _ _ _ _ _ _ l.invariant _ next _
    (gathered_more (marked_in a.self.now.m a.self.now.words.now a.g.now) _ _ _ _ _ _ _ (omega (arith, e.low, a.self.now.few)) e.kept e.new
    refl refl (back32 _ fits) (c.mark_at.ensures ∙ kept-mark a.self.now.m _ a.self.now.few _ e.low e.kept) l.into
    (upto_met _ _ _ _ _ _ _ l.invariant _ next (gathered_skips _ a.w _ a.g.now a.into.now.m l.into)))

pub overflow_cast-into : goal.overflow_cast-into
overflow_cast-into c =
    let a = c.args in
    let l = c.loop-t in
    let end = upto_last _ _ _ _ _ _ l.invariant (gathered_skips _ a.w _ a.g.now a.into.now.m l.into) c.in-None.ensures.steps in
    record { fits = omega (arith, end.0, l.invariant.few, rank_most (kept_in a.self.now.m a.self.now.words.now) (cut a.self.now.m a.w 64)) }

pub returns : goal.returns
returns c =
    let a = c.args in
    let l = c.loop-t in
    let end = upto_last _ _ _ _ _ _ l.invariant (gathered_skips _ a.w _ a.g.now a.into.now.m l.into) c.in-None.ensures.steps in
    gathered_last _ a.w _ a.g.now a.into.now.m l.into _ end.0 end.1
