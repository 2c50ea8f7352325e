-- What a call may rely on where its input has no fault. Assumes nothing.
use Rattle.std.specs.Prelude.{◌≡◌, refl, ◌≢◌, Bool, true, false, not, cond, ◌&&◌, List, ℕ, zero, suc, ◌≤◌, length, leb, eqb, ℤ}
use Rattle.std.proofs.Common.{arith, eqb-true, leb-true}
use Rattle.lists.specs.Bools.{and_both}
use Rattle.graph.specs.declared.Graph.{Graph}
use Rattle.graph.specs.Limits.{max_denominator}
use Rattle.graph.specs.Valid as value
use Rattle.graph.specs.Meaning.{valid_true}
use Rattle.tree_theory.specs.Inputs.{multipliers_fit, denominator_fits, denominator_fault, or_else, input_fault}
use Rattle.tree_theory.specs.Multipliers.{Ranged, fit_ranged}

pub record Accepted (g : Graph) (d : List ℤ) (len : ℕ) : Type 0 where
  pub valid : value.Valid g
  pub multipliers : length d ≡ g.n
  pub lent : len ≡ g.m
  pub ranged : Ranged d

-- the first of two faults
pub else_first : (e f : ℕ) → e ≢ 0 → or_else e f ≡ e
else_first zero f n = absurd (n refl)
else_first (suc e) f n = refl

pub else_next : (e f : ℕ) → e ≡ 0 → or_else e f ≡ f
else_next zero f h = refl
else_next (suc e) f h = absurd (let z : suc e ≡ 0 = h in omega arith)

pub else_none : (e f : ℕ) → or_else e f ≡ 0 → (e ≡ 0) × (f ≡ 0)
else_none zero f h = (refl, h)
else_none (suc e) f h = absurd (let z : suc e ≡ 0 = h in omega arith)

-- a test and its number before another fault
pub else_test : (t : Bool) (e f : ℕ) → or_else (cond (not t) (suc e) 0) f ≡ cond (not t) (suc e) f
else_test true e f = refl
else_test false e f = refl

-- a test passed, or its number was the fault
pub passed : (t : Bool) (e x : ℕ) → e ≢ 0 → cond (not t) e x ≡ 0 → (t ≡ true) × (x ≡ 0)
passed true e x n h = (refl, h)
passed false e x n h = absurd (n h)

-- a denominator in range: the fault is none exactly there
pub denominator_range : (q : ℕ) → denominator_fault q ≡ 0 → (1 ≤ q) × (q ≤ max_denominator)
unfolding denominator_fault denominator_fits
denominator_range q h =
    let p = (passed (leb 1 q && leb q max_denominator) 32 0 (omega arith) h).0 in
    let b = and_both (leb 1 q) (leb q max_denominator) p in
    (leb-true 1 q b.0, leb-true q max_denominator b.1)

pub no_fault : (g : Graph) (d : List ℤ) (len left : ℕ) → input_fault g d len left ≡ 0 → Accepted g d len × (left ≡ 0)
unfolding input_fault
no_fault g d len left h =
    let p = passed (value.valid g) 15 _ (omega arith) h in
    let q = passed (eqb (length d) g.n && eqb len g.m) 11 _ (omega arith) p.1 in
    let r = passed (multipliers_fit d) 12 left (omega arith) q.1 in
    let lengths = and_both (eqb (length d) g.n) (eqb len g.m) q.0 in (
      record {
        valid = valid_true g p.0;
        multipliers = eqb-true (length d) g.n lengths.0;
        lent = eqb-true len g.m lengths.1;
        ranged = fit_ranged d r.0;
      },
      r.1,
    )
