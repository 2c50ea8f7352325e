-- The fault of a comparison, test by test, as its code goes; that each pair's opening has none where there is none; the answer and the report by
-- the fault. Assumes nothing.
use Rattle.std.specs.Prelude.{◌≡◌, Bool, true, false, not, cond, ◌&&◌, List, eqb, leb, length, ℤ}
use Rattle.std.proofs.Math.Path.{refl}
use Rattle.std.proofs.Common.{sym, ap, ◌∙◌, arith, eqb-true}
use Prim.Native.Nat.{ℕ, zero, suc, ◌<◌}
use Rattle.lists.specs.Bools.{by_cases, and_both}
use Rattle.std.specs.List.{list_all}
use Rattle.graph.specs.declared.Graph.{Graph}
use Rattle.graph.specs.declared.refusals.Refusal.{Refusal}
use Rattle.graph.specs.Refusals.{number, not-zero}
use Rattle.graph.specs.Limits.{max_sweeps, max_step}
use Rattle.graph.specs.Valid.{valid}
use Rattle.tree_theory.specs.Inputs.{multipliers_fit, ceiling_fits, denominator_fault, or_else}
use Rattle.afloat.specs.Over.{ashore_fault}
use Rattle.machine.specs.Calls.{refused, accepted, fault}
use Rattle.compare.specs.AtMost.{every_at}
use Rattle.compare.specs.declared.Terms.{Terms}
use Rattle.compare.specs.Comparison.{max_pairs, counts, pair_opening, pairs_fit, settings_fit, compare_fault, answer_by, compare_reply, left_by, compare_leaves}

-- ---- what `?` knows of a test that answers one number, or none

pub told : (b : Bool) (n : ℕ) (r : Refusal) → number r ≡ cond (not b) n 0 → (b ≡ false) × (number r ≡ n)
told true n r e = absurd (not-zero r e)
told false n r e = (refl, e)

pub passed : (b : Bool) (n : ℕ) → 0 ≡ cond (not b) (suc n) 0 → b ≡ true
passed true n e = refl
passed false n e = absurd (omega arith)

-- of two faults the first, where there is one
pub first_one : (e f : ℕ) → ¬ (e ≡ 0) → or_else e f ≡ e
first_one zero f h = absurd (h refl)
first_one (suc e) f h = refl

-- ---- test by test

abbrev pub sizes_fit : Graph → List ℤ → List ℕ → List ℕ → List ℕ → ℕ → Bool
sizes_fit g d l sweeps steps report = eqb (length d) g.n && (eqb (length l) g.n && pairs_fit (length sweeps) (length steps) report)

module _ (g : Graph) (d : List ℤ) (l : List ℕ) (terms : Terms) (sweeps steps : List ℕ) (report : ℕ) where
  pub fault-graph : valid g ≡ false → compare_fault g d l terms sweeps steps report ≡ 15
  unfolding compare_fault
  fault-graph v = rw v

  pub fault-length : valid g ≡ true → sizes_fit g d l sweeps steps report ≡ false → compare_fault g d l terms sweeps steps report ≡ 11
  unfolding compare_fault
  fault-length v z = rw (v, z)

  module _ (v : valid g ≡ true) (z : sizes_fit g d l sweeps steps report ≡ true) where
    pub fault_multipliers : multipliers_fit d ≡ false → compare_fault g d l terms sweeps steps report ≡ 12
    unfolding compare_fault
    fault_multipliers f = rw (v, z, f)

    pub fault_ceiling : multipliers_fit d ≡ true → ceiling_fits terms.ceiling ≡ false → compare_fault g d l terms sweeps steps report ≡ 13
    unfolding compare_fault
    fault_ceiling f c = rw (v, z, f, c)

    pub fault_settings : multipliers_fit d ≡ true → ceiling_fits terms.ceiling ≡ true → settings_fit sweeps steps ≡ false
        → compare_fault g d l terms sweeps steps report ≡ 14
    unfolding compare_fault
    fault_settings f c s = rw (v, z, f, c, s)

    -- what is left once these fit
    pub fault-left : multipliers_fit d ≡ true → ceiling_fits terms.ceiling ≡ true → settings_fit sweeps steps ≡ true
        → compare_fault g d l terms sweeps steps report ≡ or_else (denominator_fault terms.denominator) (ashore_fault l g.n)
    unfolding compare_fault
    fault-left f c s = rw (v, z, f, c, s)

-- what is known where there is no fault
pub record Faultless (g : Graph) (d : List ℤ) (l : List ℕ) (terms : Terms) (sweeps steps : List ℕ) (report : ℕ) : Type 0 where
  pub is_valid : valid g ≡ true
  pub long : eqb (length d) g.n ≡ true
  pub listed : eqb (length l) g.n ≡ true
  pub multipliers : multipliers_fit d ≡ true
  pub within_ceiling : ceiling_fits terms.ceiling ≡ true
  pub settings : settings_fit sweeps steps ≡ true
  -- neither 32 nor 35
  pub last : or_else (denominator_fault terms.denominator) (ashore_fault l g.n) ≡ 0
  pub steps_size : length steps ≡ length sweeps
  pub report_size : report ≡ length sweeps

pub no_fault : (g : Graph) (d : List ℤ) (l : List ℕ) (terms : Terms) (sweeps steps : List ℕ) (report : ℕ)
    → compare_fault g d l terms sweeps steps report ≡ 0 → Faultless g d l terms sweeps steps report
no_fault g d l terms sweeps steps report none =
    by_cases (valid g)
    (λ v. by_cases (sizes_fit g d l sweeps steps report)
    (λ z. by_cases (multipliers_fit d)
    (λ f. by_cases (ceiling_fits terms.ceiling)
    (λ c. by_cases (settings_fit sweeps steps)
    (λ s. sound v z f c s)
    (λ s. absurd (differ 14 (fault_settings g d l terms sweeps steps report v z f c s) (omega arith))))
    (λ c. absurd (differ 13 (fault_ceiling g d l terms sweeps steps report v z f c) (omega arith))))
    (λ f. absurd (differ 12 (fault_multipliers g d l terms sweeps steps report v z f) (omega arith))))
    (λ z. absurd (differ 11 (fault-length g d l terms sweeps steps report v z) (omega arith))))
    (λ v. absurd (differ 15 (fault-graph g d l terms sweeps steps report v) (omega arith)))
  where
    differ : (x : ℕ) → compare_fault g d l terms sweeps steps report ≡ x → 0 < x → ⊥
    differ x f h = let z : 0 ≡ x = sym none ∙ f in let w : 0 < x = h in omega arith

    sound : valid g ≡ true → sizes_fit g d l sweeps steps report ≡ true → multipliers_fit d ≡ true → ceiling_fits terms.ceiling ≡ true
        → settings_fit sweeps steps ≡ true → Faultless g d l terms sweeps steps report
    sound v z f c s =
        let n = length sweeps in
        let lists = and_both (eqb (length d) g.n) (eqb (length l) g.n && pairs_fit n (length steps) report) z in
        let listed = and_both (eqb (length l) g.n) (pairs_fit n (length steps) report) lists.1 in
        let pairs = and_both (leb 1 n && leb n max_pairs) (eqb (length steps) n && eqb report n) listed.1 in
        let sizes = and_both (eqb (length steps) n) (eqb report n) pairs.1 in
        record {
          is_valid = v;
          long = lists.0;
          listed = listed.0;
          multipliers = f;
          within_ceiling = c;
          settings = s;
          last = sym (fault-left g d l terms sweeps steps report v z f c s) ∙ none;
          steps_size = eqb-true (length steps) n sizes.0;
          report_size = eqb-true report n sizes.1;
        }

-- ---- each pair's opening is accepted

pub pair_accepted : (g : Graph) (d : List ℤ) (l : List ℕ) (terms : Terms) (sweeps steps : List ℕ) (report : ℕ)
    → compare_fault g d l terms sweeps steps report ≡ 0 → (i : ℕ) → fault (pair_opening g d l terms sweeps steps i) ≡ 0
unfolding fault settings_fit
pair_accepted g d l terms sweeps steps report none i =
    let f = no_fault g d l terms sweeps steps report none in
    let both = and_both (list_all (λ x. leb x max_sweeps) sweeps) (list_all (λ x. leb x max_step) steps) f.settings in
    rw (f.is_valid, f.long, f.listed, f.multipliers, f.within_ceiling, every_at max_sweeps sweeps both.0 i, every_at max_step steps both.1 i)
    f.last

-- ---- the answer and the report, by the fault

module _ (g : Graph) (d : List ℤ) (l : List ℕ) (terms : Terms) (sweeps steps : List ℕ) where
  pub reply-refused : (report : ℕ) (r : Refusal) → number r ≡ compare_fault g d l terms sweeps steps report
      → refused (number r) 0 ≡ compare_reply g d l terms sweeps steps report
  unfolding compare_reply
  reply-refused report r is = sym (ap answer_by (sym is) ∙ go (number r) (not-zero r))
    where
      go : (f : ℕ) → ¬ (f ≡ 0) → answer_by f ≡ refused f 0
      go zero h = absurd (h refl)
      go (suc f) h = refl

  pub refused-leaves : (report : List ℕ) (r : Refusal)
      → number r ≡ compare_fault g d l terms sweeps steps (length report) → report ≡ compare_leaves g d l terms sweeps steps report
  unfolding compare_leaves
  refused-leaves report r is = sym (ap (λ (f : ℕ). left_by f (counts g d l terms sweeps steps) report) (sym is) ∙ go (number r) (not-zero r))
    where
      go : (f : ℕ) → ¬ (f ≡ 0) → left_by f (counts g d l terms sweeps steps) report ≡ report
      go zero h = absurd (h refl)
      go (suc f) h = refl

  pub reply_accepted : (report : ℕ) → compare_fault g d l terms sweeps steps report ≡ 0
      → compare_reply g d l terms sweeps steps report ≡ accepted
  unfolding compare_reply
  reply_accepted report is = rw is

  pub counted-leaves : (report : List ℕ) → compare_fault g d l terms sweeps steps (length report) ≡ 0
      → compare_leaves g d l terms sweeps steps report ≡ counts g d l terms sweeps steps
  unfolding compare_leaves
  counted-leaves report is = rw is
