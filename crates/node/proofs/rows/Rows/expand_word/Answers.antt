-- Edge by edge.
use Rattle.std.proofs.Common.{arith}
use Rattle.node.specs.Expanding.{expanded_more}
use Rattle.node.specs.Walking.{upto_first, upto_last, upto_edge, upto_met, upto_more, place_fits, count_fits}
use Rattle.node.proofs.Loops.{put_skips}
use Rattle.node.proofs.rows.Rows.expand_word.Goals as goal

pub loop-t-init : goal.loop-t-init
loop-t-init c =
    upto_first _ _ _ _ c.args.self.now.few _ _ _ c.into_iter-t-iterator.ensures.into_iter_gives c.live_word.ensures c.requires.before c.requires.put

pub bounds-bytes-next : goal.bounds-bytes-next
bounds-bytes-next c = count_fits _ _ _ _ _ _ c.loop-t.invariant c.in-Some.ensures.steps.0

pub bounds-all-w : goal.bounds-all-w
bounds-all-w c = let next = c.in-Some.ensures.steps in place_fits _ _ _ _ _ _ _ c.loop-t.invariant next.0 next.1

pub overflow_add-next : goal.overflow_add-next
overflow_add-next c = record { fits = omega (arith, count_fits _ _ _ _ _ _ c.loop-t.invariant c.in-Some.ensures.steps.0) }

pub loop-t-preserved : goal.loop-t-preserved
loop-t-preserved c =
    let a = c.args in
    let l = c.loop-t in
    let next = c.in-Some.ensures.steps in
    let e = upto_edge _ _ _ _ _ _ _ l.invariant _ next in
    upto_more _ _ _ _ _ _ _ l.invariant _ next _
    (expanded_more _ _ _ _ (upto_met _ _ _ _ _ _ _ l.invariant _ next (put_skips _ a.w _ _ _)) _
    (omega (arith, e.low, a.self.now.few)) e.kept e.new)

pub returns-clause-count : goal.returns-clause-count
returns-clause-count c =
    let a = c.args in
    (upto_last _ _ _ _ _ _ c.loop-t.invariant (put_skips _ a.w _ _ _) c.in-None.ensures.steps).0

pub returns-clause-put : goal.returns-clause-put
returns-clause-put c =
    let a = c.args in
    (upto_last _ _ _ _ _ _ c.loop-t.invariant (put_skips _ a.w _ _ _) c.in-None.ensures.steps).1
