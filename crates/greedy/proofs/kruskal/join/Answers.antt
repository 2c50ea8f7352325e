use Rattle.std.proofs.Common.{◌∙◌, arith, length-set}
use Rattle.spanning.specs.Walks.{relabel}
use Rattle.greedy.specs.Relabelling.{relabelled_more}
use Rattle.greedy.proofs.kruskal.join.Goals as goal

pub loop-z-preserved : goal.loop-z-preserved
unfolding relabel
loop-z-preserved c =
    let l = c.loop-z in (
      length-set l.labels l.z-index _ ∙ l.invariant.0,
      relabelled_more _ _ _ l.labels l.z-index _ l.invariant.1 (omega (arith, l.invariant.0))
          (rw (c.min-low.ensures, c.max-high.ensures) at c.relabelled.ensures),
    )
