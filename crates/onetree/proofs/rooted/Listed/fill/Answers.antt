-- A free edge of the tree away from vertex 1 is listed at both ends, every other is skipped.
use Rattle.std.proofs.Common.{◌≡◌, ◌<◌, sym, ◌∙◌, arith, add-one, true≢false}
use Rattle.swaps.specs.TreeTable.{Inner, TwoEnds, test_inner, inner_test, table_none, table_skip, table_room, room_b, table_more, table_lists}
use Rattle.onetree.proofs.rooted.Listed.fill.Goals as goal
use Rattle.onetree.proofs.rooted.Listed.fill.Goals.{Then-swappable, then-swappable, else-swappable}

-- the edge is a free far one of the tree, and has two ends
inner : (c : Then-swappable) → Inner c.args.tree.now.graph.now c.args.tree.now.lists.now.tree c.loop-k.k
inner c = test_inner _ _ _ (sym c.swappable.ensures ∙ c.if-swappable.true)

ends : (c : Then-swappable) → TwoEnds c.args.tree.now.graph.now.n c.args.ends.now.from c.args.ends.now.to c.loop-k.k
ends c = c.requires.1 c.loop-k.k (omega arith) (inner c)

pub loop-k-init : goal.loop-k-init
loop-k-init c = let p = c.requires in rw (p.2, p.3) (table_none _ _ _ _)

pub push-requires : goal.push-requires
push-requires c =
    let s = c.args in
    let p = c.requires in
    let e = ends (goal.at.push-requires c).Then-swappable in
    let i = inner (goal.at.push-requires c).Then-swappable in
    let room = table_room s.tree.now.graph.now p.0.valid s.tree.now.lists.now.tree p.0.tree _ _ p.1 _ _ _ (omega arith) c.loop-k.invariant i c.from.result in
    (omega (arith, e.low, c.from.ensures), omega (arith, e.high, p.0.valid.high, c.from.ensures), omega (arith, room))

pub push-requires-then-swappable : goal.push-requires-then-swappable
push-requires-then-swappable c =
    let s = c.args in
    let p = c.requires in
    let e = ends (goal.at.push-requires-then-swappable c).Then-swappable in
    let i = inner (goal.at.push-requires-then-swappable c).Then-swappable in
    let to = c.from-then-swappable.ensures in
    let room = room_b s.tree.now.graph.now p.0.valid s.tree.now.lists.now.tree p.0.tree _ _ p.1 _ _ _ (omega arith) c.loop-k.invariant i _ _ (sym c.from.ensures) (sym to) in
    (omega (arith, e.low', to), omega (arith, e.high', p.0.valid.high, to), rw c.push.ensures.1 room)

pub loop-k-preserved : goal.loop-k-preserved
loop-k-preserved c =
    let s = c.args in
    let p = c.requires in
    let here : c.loop-k.k < s.tree.now.graph.now.m = omega arith in
    let said = c.swappable.ensures in
    elim c.if-swappable.branch [
      | then-swappable w ↦
          let i = test_inner s.tree.now.graph.now s.tree.now.lists.now.tree c.loop-k.k (sym said ∙ w.if-swappable.true) in
          let more = table_more s.tree.now.graph.now p.0.valid s.tree.now.lists.now.tree p.0.tree _ _ p.1 _ _ _ here c.loop-k.invariant i _ _ (sym w.from.ensures)
          (sym w.from-then-swappable.ensures) in
          rw (w.self-is, w.push-then-swappable.ensures.0, w.push-then-swappable.ensures.1, w.push.ensures.0, w.push.ensures.1, add-one c.loop-k.k)
          (rw (add-one c.loop-k.k) at more)
      | else-swappable w ↦ rw w.self-is (table_skip s.tree.now.graph.now p.0.valid s.tree.now.lists.now.tree p.0.tree _ _ p.1 _ _ _ here c.loop-k.invariant
          (λ i. true≢false (sym (inner_test s.tree.now.graph.now s.tree.now.lists.now.tree c.loop-k.k i) ∙ sym said ∙ w.if-swappable.false)))
    ]

pub returns : goal.returns
returns c =
    let s = c.args in
    let p = c.requires in
    let e : c.loop-k.k ≡ s.tree.now.graph.now.m = omega arith in
    table_lists s.tree.now.graph.now p.0.valid s.tree.now.lists.now.tree p.0.tree _ _ p.1 _ c.loop-k.self.count (rw e at c.loop-k.invariant)
