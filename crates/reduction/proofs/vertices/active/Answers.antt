-- One vertex more.
use Rattle.std.proofs.Common.{◌≡◌, ◌∙◌, ◌+◌, refl, sym, ap, arith}
use Rattle.std.proofs.Math.Bool.{not}
use Rattle.thinning.specs.Ranks.{rank, rank_most}
use Rattle.afloat.specs.Over.{ashore, active}
use Rattle.afloat.specs.Reduced.{count_is}
use Rattle.reduction.specs.Gathered.{next_is, rank_more, rank_skip}
use Rattle.reduction.proofs.vertices.active.Goals as goal
use Rattle.reduction.proofs.vertices.active.Goals.{then-not-is_ashore, else-not-is_ashore}

pub loop-k-init : goal.loop-k-init
unfolding rank
loop-k-init c = refl

pub overflow_add-count : goal.overflow_add-count
overflow_add-count c = record { fits = omega (arith, c.loop-k.invariant, rank_most (active (ashore c.args.bytes.now)) c.loop-k.k) }

pub loop-k-preserved : goal.loop-k-preserved
loop-k-preserved c =
    let s = ashore c.args.bytes.now in
    let k = c.loop-k.k in
    let told = ap s (sym (next_is k)) ∙ sym c.is_ashore.ensures in
    elim c.if-not-is_ashore.branch [
      | then-not-is_ashore w ↦
          w.count-is ∙ ap (λ n. n + 1) c.loop-k.invariant ∙ sym (rank_more (active s) k (ap not (told ∙ w.if-not-is_ashore.true)))
      | else-not-is_ashore w ↦ w.count-is ∙ c.loop-k.invariant ∙ sym (rank_skip (active s) k (ap not (told ∙ w.if-not-is_ashore.false)))
    ]

pub returns : goal.returns
returns c =
    let e : c.loop-k.k ≡ c.args.n = omega arith in
    c.loop-k.invariant ∙ ap (rank (active (ashore c.args.bytes.now))) e ∙ sym (count_is (ashore c.args.bytes.now) c.args.n)
