-- An edge more, in or out; the two numbers fit, and are read back as they were.
use Rattle.std.proofs.Common.{◌≡◌, ℕ, ◌+◌, ◌<◌, List, get_or, ℤ, pos, ◌+ℤ◌, to_z, of_z, w64, sym, ap, ◌∙◌, rules, arith}
use Rattle.std.proofs.Math.IntN.{+ℤ_comm}
use Rattle.std.specs.Int.Signed.{mag}
use Rattle.integers.specs.Parts.{add-up, add-dn, mag_of_parts}
use Rattle.integers.specs.Words.{back32, back64}
use Rattle.integers.specs.Range.{InRange, within_range}
use Rattle.graph.specs.declared.Graph.{Graph}
use Rattle.graph.specs.Limits.{max_cost}
use Rattle.graph.specs.Valid.{Valid}
use Rattle.graph.specs.Fits.{total_fits}
use Rattle.search.specs.Runs.Costs.{CostTo, cost_to, cost_none, cost_all, ticked}
use Rattle.search.proofs.cost.tour_cost.Goals as goal
use Rattle.search.proofs.cost.tour_cost.Goals.{then-w-k-eq1, else-w-k-eq1}

module _ (k : ℕ) (g : Graph) (w : List ℕ) (sum : ℤ) (v : Valid g) (h : k < g.m) (s : CostTo k g w sum) where
  abbrev z : ℤ
  z = get_or g.cost k (pos 0)

  range : InRange max_cost z
  range = within_range max_cost z (v.each k h).range

  -- it fits
  small : mag z < 9223372036854775808
  small = mag_of_parts z _ (omega (arith, range.high, total_fits)) (omega (arith, range.low, total_fits))

  sum_small : mag (sum +ℤ z) < 9223372036854775808
  sum_small =
      mag_of_parts (sum +ℤ z) _ (omega (arith, add-up sum z, range.high, s.high, v.few, total_fits))
      (omega (arith, add-dn sum z, range.low, s.low, v.few, total_fits))

  more : (x r : ℤ) → get_or w k 0 ≡ 1 → x ≡ z → r ≡ to_z w64 (of_z w64 (sum +ℤ to_z w64 (of_z w64 x))) → CostTo (k + 1) g w r
  more x r i e q = ticked k g w sum r h range s (record { yes' = λ _. is; no' = λ n. absurd (n i) })
    where
      is : r ≡ z +ℤ sum
      is =
          q
          ∙ ap (λ (y : ℤ). to_z w64 (of_z w64 (sum +ℤ y))) (ap (λ (y : ℤ). to_z w64 (of_z w64 y)) e ∙ back64 z small)
          ∙ back64 (sum +ℤ z) sum_small
          ∙ +ℤ_comm sum z

  no-more : (r : ℤ) → (get_or w k 0 ≡ 1 → ⊥) → r ≡ sum → CostTo (k + 1) g w r
  no-more r n q = ticked k g w sum r h range s (record { yes' = λ e. absurd (n e); no' = λ _. q })

pub loop-k-init : goal.loop-k-init
loop-k-init c = record { is = sym (cost_none c.args.valid.graph.now c.args.w.now); high = omega arith; low = omega arith }

pub loop-k-preserved : goal.loop-k-preserved
loop-k-preserved c =
    let g = c.args.valid.graph.now in
    let w = c.args.w.now in
    let h : c.loop-k.k < g.m = omega (arith, c.from-k-end.ensures) in
    elim c.if-w-k-eq1.branch [
      | then-w-k-eq1 b ↦ more c.loop-k.k g w _ c.args.valid.valid h c.loop-k.invariant b.from-sum.result _ b.if-w-k-eq1.true (b.from-sum.ensures ∙ back32 _ (search rules)) b.sum-is
      | else-w-k-eq1 b ↦ no-more c.loop-k.k g w _ c.args.valid.valid h c.loop-k.invariant _ b.if-w-k-eq1.false b.sum-is
    ]

pub returns : goal.returns
returns c =
    let g = c.args.valid.graph.now in
    let sum = c.loop-k.invariant in
    let all : c.loop-k.k ≡ g.m = omega (arith, c.from-k-end.ensures) in (
      sum.is ∙ ap (λ (k : ℕ). cost_to k g c.args.w.now) all ∙ cost_all g c.args.w.now,
      record { high = omega (arith, sum.high, all, c.args.valid.valid.few); low = omega (arith, sum.low, all, c.args.valid.valid.few) },
    )
