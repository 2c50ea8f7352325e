-- A TIGHTER CEILING UNDOES NO RULING: the plain facts of Infeasible, Barred and Forced under two ceilings, and from them what TwoCeilings says
-- of the rule call, for any low ≤ high. Assumes nothing.
use Rattle.std.proofs.Math.Path.{◌≡◌, refl}
use Rattle.std.proofs.Common.{sym, ap, ◌∙◌, inl, inr, arith}
use Rattle.std.specs.Prelude.{List, length, get_or, ℤ, ◌≤ℤ◌}
use Prim.Native.Nat.{ℕ, zero, suc, ◌≤◌, ◌-◌}
use Rattle.integers.specs.Range.{InRange}
use Rattle.integers.specs.Multiples.{◌times◌, times_mono}
use Rattle.integers.specs.Order.{le_trans, le_antisym, le_lt_clash}
use Rattle.graph.specs.declared.Graph.{Graph}
use Rattle.graph.specs.Limits.{max_ceiling}
use Rattle.graph.specs.Network.{network}
use Rattle.afloat.specs.Over.{ashore, bound_over, InfeasibleOver}
use Rattle.tree_theory.specs.Inputs.{multiplier}
use Rattle.tree_theory.specs.Scaled.{scaled_by}
use Rattle.onetree.specs.Answers.{Reply, refused, none, bounded, unless_fault}
use Rattle.reduction.specs.Answers.{rule_fault_over, rule_reply_over, rule_leaves_over}
use Rattle.onetree_theorems.specs.Calls.{Fine, rule_asks, RuledExactly, GivesRulings}
use Rattle.onetree_theorems.specs.Theorems.{rule_exactly}
use Rattle.onetree_theorems.specs.TwoCeilings.{GaveRulings, IsRuled, NothingComesBack}
use Rattle.onetree_theorems.specs.LowerCeiling.{infeasible_lower, barred_lower, forced_lower, says, fine, gave_fine}

-- ---- a call that is not refused found nothing wrong

module _ (g : Graph) (d : List ℤ) (l : List ℕ) (ceiling : ℤ) (den len : ℕ) where
  none_fine : rule_reply_over g d l ceiling den len ≡ none → Fine (rule_asks g d l ceiling den len)
  unfolding rule_reply_over
  none_fine h = fine g d l ceiling den len (go (rule_fault_over g d l ceiling den len) (says g d l ceiling den len) h)
    where
      go : (f : ℕ) (r : Reply) → unless_fault f r ≡ none → f ≡ 0
      go zero r h = refl
      go (suc f) r h = absurd (let z : ◌≡◌ {A = ℕ} 0 1 = cc in omega arith)

-- of another ceiling that is one, nothing is wrong either
fine_too : (g : Graph) (d : List ℤ) (l : List ℕ) (one other : ℤ) (den len : ℕ) → Fine (rule_asks g d l one den len) → InRange max_ceiling other
    → Fine (rule_asks g d l other den len)
fine_too g d l one other den len f fits = (f.0, (f.1.0, (f.1.1.0, (fits, f.1.1.1.1))))

not_none : (r : Reply) → GaveRulings r → ¬ (r ≡ none)
not_none (refused number place) h e = absurd h
not_none none h e = absurd h
not_none (bounded b) h e = let z : ◌≡◌ {A = ℕ} 0 1 = cc in omega arith

pub gave : (g : Graph) (d : List ℤ) (l : List ℕ) (ceiling : ℤ) (den : ℕ) (out : List ℕ) → GaveRulings (rule_reply_over g d l ceiling den (length out))
    → GivesRulings g d l ceiling den (rule_reply_over g d l ceiling den (length out)) (rule_leaves_over g d l ceiling den out)
gave g d l ceiling den out h =
    (rule_exactly g d l ceiling den out).otherwise (gave_fine g d l ceiling den (length out) h) (not_none (rule_reply_over g d l ceiling den (length out)) h)

-- ---- of one edge's two bytes

same_byte : (g : Graph) (d : List ℤ) (l : List ℕ) (low high : ℤ) → low ≤ℤ high → (den k x y : ℕ) → RuledExactly g d l low den k x → RuledExactly g d l high den k y → IsRuled y
    → x ≡ y
same_byte g d l low high lower den k x y at_low at_high (inl e) =
    let f = at_high.forces.0 e in
    at_low.forces.1 (f.0, forced_lower (ashore l) (scaled_by den (network g)) (multiplier d) (den times low) (den times high) (times_mono den low high lower) k f.1) ∙ sym e
same_byte g d l low high lower den k x y at_low at_high (inr e) =
    let b = at_high.bars.0 e in
    at_low.bars.1 (b.0, barred_lower (ashore l) (scaled_by den (network g)) (multiplier d) (den times low) (den times high) (times_mono den low high lower) k b.1) ∙ sym e

-- ---- of the calls

module _ (low high : ℤ) (lower : low ≤ℤ high) (g : Graph) (d : List ℤ) (l : List ℕ) (den : ℕ) (out other : List ℕ) where
  ruled_the_same_lem : GaveRulings (rule_reply_over g d l low den (length out)) → GaveRulings (rule_reply_over g d l high den (length other)) → (k : ℕ) → 1 ≤ k → k ≤ g.m
      → IsRuled (get_or (rule_leaves_over g d l high den other) (k - 1) 0)
      → get_or (rule_leaves_over g d l low den out) (k - 1) 0 ≡ get_or (rule_leaves_over g d l high den other) (k - 1) 0
  ruled_the_same_lem at_low at_high k least most =
      same_byte g d l low high lower den k _ _ ((gave g d l low den out at_low).each k least most) ((gave g d l high den other at_high).each k least most)

  same-bound : GaveRulings (rule_reply_over g d l low den (length out)) → length other ≡ length out → InRange max_ceiling high
      → rule_reply_over g d l high den (length other) ≡ rule_reply_over g d l low den (length out)
  same-bound at_low long fits = r-high.replied ∙ ap bounded equal ∙ sym r_low.replied
    where
      r_low : GivesRulings g d l low den (rule_reply_over g d l low den (length out)) (rule_leaves_over g d l low den out)
      r_low = gave g d l low den out at_low

      fine_high : Fine (rule_asks g d l high den (length other))
      fine_high = rw long (fine_too g d l low high den (length out) (gave_fine g d l low den (length out) at_low) fits)

      alive : ¬ (rule_reply_over g d l high den (length other) ≡ none)
      alive e =
          let i = ((rule_exactly g d l high den other).dead fine_high).0 e in
          unfold InfeasibleOver in
          le_lt_clash _ (den times high) (le_trans _ (den times low) (den times high) r_low.within (times_mono den low high lower)) (i r_low.edges r_low.least.tree)

      r-high : GivesRulings g d l high den (rule_reply_over g d l high den (length other)) (rule_leaves_over g d l high den other)
      r-high = (rule_exactly g d l high den other).otherwise fine_high alive

      equal : bound_over (ashore l) (scaled_by den (network g)) (multiplier d) r-high.edges ≡ bound_over (ashore l) (scaled_by den (network g)) (multiplier d) r_low.edges
      equal =
          le_antisym _ _ (r-high.least.least r_low.edges r_low.least.tree) (r_low.least.least r-high.edges r-high.least.tree)

  stays_dead_lem : rule_reply_over g d l high den (length other) ≡ none → length out ≡ length other → InRange max_ceiling low
      → rule_reply_over g d l low den (length out) ≡ none
  stays_dead_lem dead long fits =
      let f = none_fine g d l high den (length other) dead in
      let i = ((rule_exactly g d l high den other).dead f).0 dead in
      ((rule_exactly g d l low den out).dead (rw long (fine_too g d l high low den (length other) f fits))).1
      (infeasible_lower (ashore l) (scaled_by den (network g)) (multiplier d) (den times low) (den times high) (times_mono den low high lower) i)

module _ (g : Graph) (d : List ℤ) (l : List ℕ) (low high : ℤ) (lower : low ≤ℤ high) (den : ℕ) (out other : List ℕ) where
  -- C-15, of any two ceilings low ≤ high
  pub nothing_comes_back : NothingComesBack g d l low high den out other
  nothing_comes_back = record {
    ruled_the_same = ruled_the_same_lem low high lower g d l den out other;
    same_bound = same-bound low high lower g d l den out other;
    stays_dead = stays_dead_lem low high lower g d l den out other;
  }
