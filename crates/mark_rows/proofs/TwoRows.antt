-- The two rows of a node's marks and the marks in two rows: there and back, which edges are excluded or free, how many are free, and
-- the first of them.
use Rattle.std.specs.Prelude.{◌≡◌, refl, Bool, true, not, ◌&&◌, List, ◌∷◌, length}
use Rattle.std.proofs.Math.Path.{sym, ap, ap₂}
use Rattle.std.proofs.Common.{◌∙◌, true≢false}
use Rattle.std.proofs.Math.Bool.{false}
use Prim.Native.Nat.{ℕ, zero, suc, ◌-◌, ◌*◌, ◌≤◌, ◌<◌}
use native.Mathlib.Omega.{arith}
use Rattle.std.proofs.Math.Decide.{dec_le}
use Rattle.lists.specs.Rows.{row, row_same, row_of}
use Rattle.bits.specs.Counting.{count, count_low, count_same}
use Rattle.bits.specs.Rows.{digit, row_of-row, row_ones}
use Rattle.bits.proofs.Rows.{row_ext}
use Rattle.bits.specs.Pairs.{Pair}
use Rattle.bits.proofs.Pairs.{neither}
use Rattle.graph.specs.Network.{Mark, free, required, excluded}
use Rattle.tree_theory.specs.Valid.{is_required, is_excluded, is_free}
use Rattle.machine.specs.Machine.{Marks, frees, first_free}
use Rattle.mark_rows.specs.MarkRows.{mark_at, required_row, excluded_row, mark_bits, marks_in_pair}
use Rattle.mark_rows.specs.TwoRows.{past_marks, marks-size, marks-at, required_row-at, excluded_row-at, required_again, count_zero}

-- ---- a mark and its two digits

bits_mark : (y : Mark) → mark_bits (is_required y) (is_excluded y) ≡ y
bits_mark free = refl
bits_mark required = refl
bits_mark excluded = refl

mark_excluded : (b e : Bool) → is_excluded (mark_bits b e) ≡ e
mark_excluded true true = refl
mark_excluded true false = refl
mark_excluded false true = refl
mark_excluded false false = refl

mark_free : (b e : Bool) → is_free (mark_bits b e) ≡ not b && not e
mark_free true true = refl
mark_free true false = refl
mark_free false true = refl
mark_free false false = refl

-- ---- edge by edge

module _ (m : ℕ) (r s : List ℕ) where
  pub excluded_at : (k : ℕ) → 1 ≤ k → k ≤ m → is_excluded (mark_at (marks_in_pair m r s) k) ≡ digit s k
  excluded_at k l u = ap is_excluded (marks-at m r s k l u) ∙ mark_excluded (digit r k) (digit s k)

  pub free_at : (k : ℕ) → 1 ≤ k → k ≤ m → is_free (mark_at (marks_in_pair m r s) k) ≡ not (digit r k) && not (digit s k)
  free_at k l u = ap is_free (marks-at m r s k l u) ∙ mark_free (digit r k) (digit s k)

module _ (W : ℕ) (x : Marks) where
  -- MARKS, TO ROWS AND BACK
  pub marks_again : length x ≤ 64 * W → marks_in_pair (length x) (required_row W x) (excluded_row W x) ≡ x
  unfolding marks_in_pair
  marks_again h =
      row_same (length x) (λ k. mark_bits (digit (required_row W x) k) (digit (excluded_row W x) k)) (mark_at x)
      (λ j l.
      ap₂ mark_bits (required_row-at W x (suc j) (omega arith) (omega arith)) (excluded_row-at W x (suc j) (omega arith) (omega arith))
      ∙ bits_mark (mark_at x (suc j)))
      ∙ row_of x free

module _ (W m : ℕ) (r s : List ℕ) (p : Pair W m r s) where
  pub excluded_again : excluded_row W (marks_in_pair m r s) ≡ s
  unfolding excluded_row
  excluded_again =
      row_ext W (excluded_row W (marks_in_pair m r s)) s (row_of-row W (λ i. is_excluded (mark_at (marks_in_pair m r s) i))) p.second
      (λ k l u. excluded_row-at W (marks_in_pair m r s) k l u ∙ go k l (dec_le k m))
    where
      go : (k : ℕ) → 1 ≤ k → Dec (k ≤ m) → is_excluded (mark_at (marks_in_pair m r s) k) ≡ digit s k
      go k l (yes u) = excluded_at m r s k l u
      go k l (no u) =
          ap is_excluded (past_marks (marks_in_pair m r s) k (omega (arith, marks-size m r s))) ∙ sym (p.clear₂ k (omega arith))

-- so one node has one pair of rows
pub one_pair : (W m : ℕ) (r s r' s' : List ℕ) → Pair W m r s → Pair W m r' s' → marks_in_pair m r s ≡ marks_in_pair m r' s' → (r ≡ r') × (s ≡ s')
one_pair W m r s r' s' p p' e = (
  sym (required_again W m r s p) ∙ ap (required_row W) e ∙ required_again W m r' s' p',
  sym (excluded_again W m r s p) ∙ ap (excluded_row W) e ∙ excluded_again W m r' s' p',
)

frees-row : (m : ℕ) (f : ℕ → Mark) → frees (row m f) ≡ count m (λ k. is_free (f k))
unfolding frees row
frees-row zero f = sym (count_zero (λ k. is_free (f k)))
frees-row (suc m) f = omega (arith, count_low m (λ k. is_free (f k)), frees-row m (λ k. f (suc k)))

-- "The number of free legs becomes m less the set bits of both rows."
pub frees_pair : (W m : ℕ) (r s : List ℕ) → Pair W m r s → frees (marks_in_pair m r s) ≡ m - row_ones r - row_ones s
unfolding marks_in_pair
frees_pair W m r s p =
    frees-row m (λ k. mark_bits (digit r k) (digit s k))
    ∙ count_same m (λ k. is_free (mark_bits (digit r k) (digit s k))) (λ k. not (digit r k) && not (digit s k))
    (λ k l u. mark_free (digit r k) (digit s k))
    ∙ neither W m r s p

-- ---- the lowest free edge: the first whose digits are both clear, and m where there is none

first-row : (m : ℕ) (f : ℕ → Mark) (j : ℕ) → j ≤ m → ((i : ℕ) → i < j → is_free (f (suc i)) ≡ false)
    → (j < m → is_free (f (suc j)) ≡ true) → first_free (row m f) ≡ j
unfolding first_free row
first-row zero f j u below here = omega arith
first-row (suc m) f zero u below here = go (f 1) (here (omega arith))
  where
    go : (y : Mark) → is_free y ≡ true → first_free (y ∷ row m (λ k. f (suc k))) ≡ 0
    go free e = refl
    go required e = absurd (true≢false (sym e))
    go excluded e = absurd (true≢false (sym e))
first-row (suc m) f (suc j) u below here =
    go (f 1) (below 0 (omega arith))
    (first-row m (λ k. f (suc k)) j (omega arith) (λ i l. below (suc i) (omega arith)) (λ l. here (omega arith)))
  where
    go : (y : Mark) → is_free y ≡ false → first_free (row m (λ k. f (suc k))) ≡ j → first_free (y ∷ row m (λ k. f (suc k))) ≡ suc j
    go free e i = absurd (true≢false e)
    go required e i = ap suc i
    go excluded e i = ap suc i

pub first_free_lem : (m : ℕ) (r s : List ℕ) (j : ℕ) → j ≤ m
    → ((i : ℕ) → i < j → not (digit r (suc i)) && not (digit s (suc i)) ≡ false)
    → (j < m → not (digit r (suc j)) && not (digit s (suc j)) ≡ true)
    → first_free (marks_in_pair m r s) ≡ j
unfolding marks_in_pair
first_free_lem m r s j u below here =
    first-row m (λ k. mark_bits (digit r k) (digit s k)) j u
    (λ i l. mark_free (digit r (suc i)) (digit s (suc i)) ∙ below i l)
    (λ l. mark_free (digit r (suc j)) (digit s (suc j)) ∙ here l)
