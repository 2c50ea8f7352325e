-- One vertex more.
use Rattle.std.proofs.Common.{◌∙◌, ◌+◌, ◌<◌, refl, sym, ap, pos, get_or, replicate, arith}
use Rattle.std.proofs.Math.Bool.{not}
use lib.Signed.{mag}
use Rattle.integers.specs.Words.{back32}
use Rattle.lists.specs.Fill.{replicate-at}
use Rattle.thinning.specs.Ranks.{rank, rank_most}
use Rattle.afloat.specs.Over.{ashore, active}
use Rattle.reduction.specs.Gathered.{next_is, rank_more, rank_skip}
use Rattle.reduction.specs.Active.{active_none, active_skip, active_more, active_all}
use Rattle.reduction.proofs.vertices.Afloat.active_multipliers.Goals as goal
use Rattle.reduction.proofs.vertices.Afloat.active_multipliers.Goals.{then-not-is_ashore, else-not-is_ashore}

pub loop-k-init : goal.loop-k-init
unfolding rank
loop-k-init c = (active_none (ashore c.args.self.now.ashore.now) c.args.multipliers.now (replicate 20 (pos 0)) refl (replicate-at 20 (pos 0)), refl)

pub offset_bounds-d-j : goal.offset_bounds-d-j
offset_bounds-d-j c =
    record {
      fits = omega (
        arith,
        c.loop-k.invariant.1,
        rank_most (active (ashore c.args.self.now.ashore.now)) c.loop-k.k,
        c.args.self.now.valid.high,
        c.from.ensures,
        c.min-k-end.ensures,
      );
    }

pub bounds-d-j : goal.bounds-d-j
bounds-d-j c =
    omega (
      arith,
      c.loop-k.invariant.1,
      rank_most (active (ashore c.args.self.now.ashore.now)) c.loop-k.k,
      c.args.self.now.valid.high,
      c.from.ensures,
      c.min-k-end.ensures,
    )

pub overflow_add-j : goal.overflow_add-j
overflow_add-j c =
    record {
      fits = omega (
        arith,
        c.loop-k.invariant.1,
        rank_most (active (ashore c.args.self.now.ashore.now)) c.loop-k.k,
        c.args.self.now.valid.high,
        c.from.ensures,
        c.min-k-end.ensures,
      );
    }

pub loop-k-preserved : goal.loop-k-preserved
loop-k-preserved c =
    let s = ashore c.args.self.now.ashore.now in
    let k = c.loop-k.k in
    let told = ap s (sym (next_is k)) ∙ sym c.is_ashore.ensures in
    let few : c.loop-k.j < 20 = omega
    (arith, c.loop-k.invariant.1, rank_most (active s) k, c.args.self.now.valid.high, c.from.ensures, c.min-k-end.ensures) in
    let fits : mag (get_or c.args.multipliers.now k (pos 0)) < 2147483648 = omega arith in
    elim c.if-not-is_ashore.branch [
      | then-not-is_ashore w ↦
          let e = told ∙ w.if-not-is_ashore.true in
          rw (w.d-is, w.j-is) (
            active_more s c.args.multipliers.now k _ c.loop-k.d _ e c.loop-k.invariant.1 few (back32 _ fits) c.loop-k.invariant.0,
            ap (λ n. n + 1) c.loop-k.invariant.1 ∙ sym (rank_more (active s) k (ap not e)),
          )
      | else-not-is_ashore w ↦
          let e = told ∙ w.if-not-is_ashore.false in
          rw (w.d-is, w.j-is) (
            active_skip s c.args.multipliers.now k c.loop-k.d e c.loop-k.invariant.0,
            c.loop-k.invariant.1 ∙ sym (rank_skip (active s) k (ap not e)),
          )
    ]

pub returns : goal.returns
returns c =
    active_all (ashore c.args.self.now.ashore.now) c.args.multipliers.now c.args.self.now.graph.now.n c.loop-k.k c.loop-k.d
    c.args.self.now.valid.high (omega (arith, c.from.ensures, c.min-k-end.ensures)) c.loop-k.invariant.0
