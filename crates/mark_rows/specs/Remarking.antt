-- One free edge of a node required, or excluded: one digit of one row is set, and the marks change in that place alone. (There is one free
-- edge less: proofs/Remarking.)
use Rattle.std.specs.Prelude.{◌≡◌, ◌≢◌, Bool, false, List, ℕ, suc, ◌-◌, ◌≤◌, ◌<◌, length, get_or, set}
use Rattle.std.proofs.Math.Path.{sym, ap}
use Rattle.std.proofs.Common.{ap₂, ◌∙◌, arith, length-set, get_or-set_same, get_or-set_other}
use Rattle.std.proofs.Math.Decide.{ℕ_discrete}
use Rattle.lists.specs.Rows.{row, row_at, row_is}
use Rattle.bits.specs.Rows.{digit}
use Rattle.bits.specs.Marking.{with_bit}
use Rattle.bits.proofs.Marking.{with_here, with_there}
use Rattle.bits.specs.Pairs.{Pair, swapped}
use Rattle.bits.proofs.Pairs.{pair_with}
use Rattle.graph.specs.Network.{Mark, free, required, excluded}
use Rattle.mark_rows.specs.MarkRows.{mark_bits, marks_in_pair}
use Rattle.mark_rows.specs.TwoRows.{marks-size}

-- marks of two rows, changed in one place
changed : (m : ℕ) (r s r' s' : List ℕ) (k : ℕ) (y : Mark) → 1 ≤ k → k ≤ m → mark_bits (digit r' k) (digit s' k) ≡ y
    → ((i : ℕ) → 1 ≤ i → i ≢ k → mark_bits (digit r' i) (digit s' i) ≡ mark_bits (digit r i) (digit s i))
    → marks_in_pair m r' s' ≡ set (marks_in_pair m r s) (k - 1) y
changed m r s r' s' k y l u here there = goal
  where
    size : length (set (marks_in_pair m r s) (k - 1) y) ≡ m
    size = length-set (marks_in_pair m r s) (k - 1) y ∙ marks-size m r s

    at : (j : ℕ) → j < m → Dec (j ≡ k - 1) → get_or (set (marks_in_pair m r s) (k - 1) y) j free ≡ mark_bits (digit r' (suc j)) (digit s' (suc j))
    at j b (yes e) =
        let f : suc j ≡ k = omega arith in
        rw (e, get_or-set_same (marks_in_pair m r s) (k - 1) y free (omega (arith, marks-size m r s)))
        (sym here ∙ ap (λ (i : ℕ). mark_bits (digit r' i) (digit s' i)) (omega arith))
    at j b (no e) =
        get_or-set_other (marks_in_pair m r s) (k - 1) j y free e
        ∙ place j b
        ∙ sym (there (suc j) (omega arith) (omega arith))
      where
        place : (i : ℕ) → i < m → get_or (marks_in_pair m r s) i free ≡ mark_bits (digit r (suc i)) (digit s (suc i))
        place i c = unfold marks_in_pair in row_at m (λ n. mark_bits (digit r n) (digit s n)) i free c

    goal : marks_in_pair m r' s' ≡ set (marks_in_pair m r s) (k - 1) y
    goal =
        unfold marks_in_pair in
        ap (λ (n : ℕ). row n (λ i. mark_bits (digit r' i) (digit s' i))) (sym size)
        ∙ sym (row_is (set (marks_in_pair m r s) (k - 1) y) free (λ i. mark_bits (digit r' i) (digit s' i))
        (λ j b. at j (omega (arith, size)) (ℕ_discrete j (k - 1))))

module _ (W m : ℕ) (r s : List ℕ) (p : Pair W m r s) (k : ℕ) (l : 1 ≤ k) (u : k ≤ m)
    (c : digit r k ≡ false) (e : digit s k ≡ false) where
  -- AN EDGE REQUIRED
  pub now_required : marks_in_pair m (with_bit r k) s ≡ set (marks_in_pair m r s) (k - 1) required
  now_required =
      changed m r s (with_bit r k) s k required l u
      (ap₂ mark_bits (with_here W r p.first k l (omega (arith, p.within)) c) e)
      (λ i li n. ap (λ (b : Bool). mark_bits b (digit s i)) (with_there W r p.first k l (omega (arith, p.within)) c i li n))

  pub required_pair : Pair W m (with_bit r k) s
  required_pair = pair_with W m r s p k l u c e

  -- AN EDGE EXCLUDED
  pub now_excluded : marks_in_pair m r (with_bit s k) ≡ set (marks_in_pair m r s) (k - 1) excluded
  now_excluded =
      changed m r s r (with_bit s k) k excluded l u
      (ap₂ mark_bits c (with_here W s p.second k l (omega (arith, p.within)) e))
      (λ i li n. ap (λ (b : Bool). mark_bits (digit r i) b) (with_there W s p.second k l (omega (arith, p.within)) e i li n))

  pub excluded_pair : Pair W m r (with_bit s k)
  excluded_pair = swapped W m (with_bit s k) r (pair_with W m s r (swapped W m r s p) k l u e c)
