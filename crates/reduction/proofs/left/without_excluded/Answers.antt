-- One edge more.
use Rattle.std.proofs.Common.{◌∙◌, ◌+◌, ◌<◌, refl, sym, ap, arith}
use Rattle.thinning.specs.Ranks.{rank, rank_most}
use Rattle.reduction.specs.Gathered.{rank_more, rank_skip}
use Rattle.reduction.specs.Left.{kept, kept_not, kept_two, left_none, left_skip, left_all}
use Rattle.reduction.proofs.left.without_excluded.Goals as goal
use Rattle.reduction.proofs.left.without_excluded.Goals.{then-g-k-ne-EXCLUDED, else-g-k-ne-EXCLUDED}

pub loop-k-init : goal.loop-k-init
unfolding rank
loop-k-init c = rw c.edgeless-left.ensures (left_none c.args.g.now, refl)

pub copy_edge-requires : goal.copy_edge-requires
copy_edge-requires c =
    let small : c.loop-k.f < 190 = omega (arith, c.loop-k.invariant.1, rank_most (kept c.args.g.now.mark) c.loop-k.k, c.requires, c.from-k-end.ensures) in
    record { few = (omega (arith, c.requires, c.from-k-end.ensures), small); before = c.loop-k.invariant.0; at = c.loop-k.invariant.1 }

pub overflow_add-f : goal.overflow_add-f
overflow_add-f c =
    record { fits = omega (arith, c.loop-k.invariant.1, rank_most (kept c.args.g.now.mark) c.loop-k.k, c.requires, c.from-k-end.ensures) }

pub loop-k-preserved : goal.loop-k-preserved
loop-k-preserved c =
    let g = c.args.g.now in
    let l = c.loop-k in
    elim c.if-g-k-ne-EXCLUDED.branch [
      | then-g-k-ne-EXCLUDED w ↦
          rw (w.left-is, w.f-is) (
            w.copy_edge.ensures,
            ap (λ n. n + 1) l.invariant.1 ∙ sym (rank_more (kept g.mark) l.k (kept_not g.mark l.k w.if-g-k-ne-EXCLUDED.true)),
          )
      | else-g-k-ne-EXCLUDED w ↦
          rw (w.left-is, w.f-is) (
            left_skip g l.left l.k l.invariant.0 w.if-g-k-ne-EXCLUDED.false,
            l.invariant.1 ∙ sym (rank_skip (kept g.mark) l.k (kept_two g.mark l.k w.if-g-k-ne-EXCLUDED.false)),
          )
    ]

pub overflow_cast-left : goal.overflow_cast-left
overflow_cast-left c =
    record { fits = omega (arith, c.loop-k.invariant.1, rank_most (kept c.args.g.now.mark) c.loop-k.k, c.requires, c.from-k-end.ensures) }

pub returns : goal.returns
returns c =
    left_all c.args.g.now c.loop-k.left c.loop-k.k c.loop-k.invariant.0 c.loop-k.f (omega (arith, c.from-k-end.ensures)) c.loop-k.invariant.1
