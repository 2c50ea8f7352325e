-- A place more, of the one side or the other, or of neither.
use Rattle.onetree.specs.Masks.{listed_none, listed_skip, listed_in, listed_out}
use Rattle.onetree.proofs.picks.list_sides.Goals as goal
use Rattle.onetree.proofs.picks.list_sides.Goals.{then-free+then-tree-k-eq1, then-free+else-tree-k-eq1, else-free}

pub loop-k-init : goal.loop-k-init
loop-k-init c = listed_none _ _ _ _ c.requires.0 c.requires.1

pub loop-k-preserved : goal.loop-k-preserved
loop-k-preserved c =
    let l = c.loop-k in
    elim c.if-free.branch [
      | then-free+then-tree-k-eq1 w ↦ rw (w.ins-is, w.outs-is, w.push.ensures.items)
          (listed_in _ _ _ _ l.k l.invariant w.if-free.true w.if-tree-k-eq1.true)
      | then-free+else-tree-k-eq1 w ↦ rw (w.ins-is, w.outs-is, w.push-else-tree-k-eq1.ensures.items)
          (listed_out _ _ _ _ l.k l.invariant w.if-free.true w.if-tree-k-eq1.false)
      | else-free w ↦ rw (w.ins-is, w.outs-is) (listed_skip _ _ _ _ l.k l.invariant w.if-free.false)
    ]
