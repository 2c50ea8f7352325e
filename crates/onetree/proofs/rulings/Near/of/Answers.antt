-- An edge at vertex 1 that is free goes to the one side or the other.
use Rattle.std.proofs.Common.{arith}
use Rattle.onetree.specs.Candidates.{near_skip, near_in, near_out}
use Rattle.onetree.proofs.Cases.{max_is, min_is}
use Rattle.onetree.proofs.rulings.Near.of.Goals as goal
use Rattle.onetree.proofs.rulings.Near.of.Goals.{then-g-k-eq1+then-g-k-eq-FREE+then-tree-k-eq1, then-g-k-eq1+then-g-k-eq-FREE+else-tree-k-eq1}
use Rattle.onetree.proofs.rulings.Near.of.Goals.{else-g-k-eq1, else-g-k-eq1-via-then-g-k-eq1+else-g-k-eq-FREE, else-g-k-eq1-via-else-g-k-eq1}

pub loop-k-preserved : goal.loop-k-preserved
loop-k-preserved c =
    let n = c.loop-k.invariant in
    elim c.if-g-k-eq1.branch [
      | then-g-k-eq1+then-g-k-eq-FREE+then-tree-k-eq1 w ↦
          rw (w.near-is, w.max.ensures) (near_in _ _ _ _ _ _ _ n w.if-g-k-eq1.true w.if-g-k-eq-FREE.true _ w.if-tree-k-eq1.true
          (omega arith) (omega arith) (max_is _ _))
      | then-g-k-eq1+then-g-k-eq-FREE+else-tree-k-eq1 w ↦
          rw (w.near-is, w.min.ensures) (near_out _ _ _ _ _ _ _ n w.if-g-k-eq1.true w.if-g-k-eq-FREE.true _ w.if-tree-k-eq1.false
          (omega arith) (omega arith) (min_is _ _))
      | else-g-k-eq1 w ↦ rw w.near-is (near_skip _ _ _ _ _ _ _ n (λ one free. elim w.else-g-k-eq1.branch [
        | else-g-k-eq1-via-then-g-k-eq1+else-g-k-eq-FREE v ↦ v.if-g-k-eq-FREE.false free
        | else-g-k-eq1-via-else-g-k-eq1 v ↦ v.if-g-k-eq1.false one
      ]))
    ]
