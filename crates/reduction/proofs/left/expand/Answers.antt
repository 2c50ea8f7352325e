-- One edge more.
use Rattle.std.proofs.Common.{◌≡◌, ◌∙◌, ◌+◌, ◌<◌, refl, sym, ap, length, arith}
use Rattle.lists.specs.FilledFrom.{updated_none, updated_more}
use Rattle.lists.specs.Rows.{row, row_is}
use Rattle.thinning.specs.Ranks.{rank, rank_most}
use Rattle.reduction.specs.Gathered.{rank_more, rank_skip}
use Rattle.reduction.specs.Left.{kept, kept_not, kept_two, expanded, expanded_own, expanded_rest}
use Rattle.reduction.proofs.left.expand.Goals as goal
use Rattle.reduction.proofs.left.expand.Goals.{then-g-k-eq-EXCLUDED, else-g-k-eq-EXCLUDED}

pub loop-k-init : goal.loop-k-init
unfolding rank
loop-k-init c = (updated_none _ c.args.out.now, refl)

pub bounds-bytes-f : goal.bounds-bytes-f
bounds-bytes-f c = omega (arith, c.loop-k.invariant.1, rank_most (kept c.args.g.now.mark) c.loop-k.k, c.requires.few, c.from-k-end.ensures)

pub overflow_add-f : goal.overflow_add-f
overflow_add-f c =
    record { fits = omega (arith, c.loop-k.invariant.1, rank_most (kept c.args.g.now.mark) c.loop-k.k, c.requires.few, c.from-k-end.ensures) }

pub loop-k-preserved : goal.loop-k-preserved
loop-k-preserved c =
    let g = c.args.g.now in
    let l = c.loop-k in
    let room : l.k < length c.args.out.now = omega (arith, c.requires.lent, c.from-k-end.ensures) in
    elim c.if-g-k-eq-EXCLUDED.branch [
      | then-g-k-eq-EXCLUDED w ↦
          rw (w.out-is, w.f-is) (
            updated_more _ c.args.out.now l.out l.k _ room l.invariant.0
                (expanded_rest g c.args.bytes.now c.args.rest l.k w.if-g-k-eq-EXCLUDED.true),
            l.invariant.1 ∙ sym (rank_skip (kept g.mark) l.k (kept_two g.mark l.k w.if-g-k-eq-EXCLUDED.true)),
          )
      | else-g-k-eq-EXCLUDED w ↦
          rw (w.out-is, w.f-is) (
            updated_more _ c.args.out.now l.out l.k _ room l.invariant.0
                (expanded_own g c.args.bytes.now c.args.rest l.k l.f l.invariant.1 w.if-g-k-eq-EXCLUDED.false),
            ap (λ n. n + 1) l.invariant.1 ∙ sym (rank_more (kept g.mark) l.k (kept_not g.mark l.k w.if-g-k-eq-EXCLUDED.false)),
          )
    ]

pub returns : goal.returns
returns c =
    let i = c.loop-k.invariant.0 in
    let all : length c.loop-k.out ≡ c.args.g.now.m = i.long ∙ c.requires.lent in
    row_is c.loop-k.out 0 (expanded c.args.g.now c.args.bytes.now c.args.rest) (λ j h. i.done j (omega (arith, all, c.from-k-end.ensures)))
    ∙ ap (λ m. row m (expanded c.args.g.now c.args.bytes.now c.args.rest)) all
