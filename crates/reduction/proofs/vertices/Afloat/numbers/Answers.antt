-- One vertex more.
use Rattle.std.proofs.Common.{◌∙◌, ◌+◌, ◌<◌, refl, sym, ap, arith}
use Rattle.std.proofs.Math.Bool.{not}
use Rattle.thinning.specs.Ranks.{rank, rank_most}
use Rattle.afloat.specs.Over.{ashore, active}
use Rattle.reduction.specs.Gathered.{next_is, rank_more, rank_skip}
use Rattle.reduction.specs.Numbers.{numbered_none, numbered_skip, numbered_more}
use Rattle.reduction.proofs.vertices.Afloat.numbers.Goals as goal
use Rattle.reduction.proofs.vertices.Afloat.numbers.Goals.{then-not-is_ashore, else-not-is_ashore}

pub loop-k-init : goal.loop-k-init
unfolding rank
loop-k-init c = (numbered_none (ashore c.args.self.now.ashore.now), refl)

pub overflow_add-last : goal.overflow_add-last
overflow_add-last c =
    record {
      fits = omega (
        arith,
        c.loop-k.invariant.1,
        rank_most (active (ashore c.args.self.now.ashore.now)) c.loop-k.k,
        c.args.self.now.valid.high,
        c.from-k-end.ensures,
      );
    }

pub loop-k-preserved : goal.loop-k-preserved
loop-k-preserved c =
    let s = ashore c.args.self.now.ashore.now in
    let k = c.loop-k.k in
    let told = ap s (sym (next_is k)) ∙ sym c.is_ashore.ensures in
    let few : k < 20 = omega (arith, c.args.self.now.valid.high, c.from-k-end.ensures) in
    elim c.if-not-is_ashore.branch [
      | then-not-is_ashore w ↦
          let e = told ∙ w.if-not-is_ashore.true in
          rw (w.numbers-is, w.last-is) (
            numbered_more s k _ c.loop-k.numbers e few (ap (λ n. n + 1) c.loop-k.invariant.1) c.loop-k.invariant.0,
            ap (λ n. n + 1) c.loop-k.invariant.1 ∙ sym (rank_more (active s) k (ap not e)),
          )
      | else-not-is_ashore w ↦
          let e = told ∙ w.if-not-is_ashore.false in
          rw (w.numbers-is, w.last-is) (
            numbered_skip s k c.loop-k.numbers e c.loop-k.invariant.0,
            c.loop-k.invariant.1 ∙ sym (rank_skip (active s) k (ap not e)),
          )
    ]
