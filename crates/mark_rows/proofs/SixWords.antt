-- The six words of a node: marks become words and come back, words that fit become marks and come back ("the rows equal the machine's marks
-- leg by leg"), the free edges are counted by set bits, and a free edge marked otherwise is one bit set.
use Rattle.std.specs.Prelude.{◌≡◌, false, length}
use Rattle.std.proofs.Math.Path.{sym, ap, ap₂}
use Rattle.std.proofs.Common.{◌∙◌}
use mathlib.Core.List.{List, [], ◌∷◌, ◌++◌}
use Prim.Native.Nat.{ℕ, suc, ◌+◌, ◌-◌, ◌/◌, ◌%◌, ◌^◌, ◌≤◌, ◌<◌}
use native.Mathlib.Omega.{arith}
use Rattle.std.proofs.Math.ListN.{get_or, set, get_or-append}
use Rattle.std.proofs.lemmas.List.{set-append_left}
use Rattle.bits.specs.Rows.{digit, row_ones}
use Rattle.bits.specs.Marking.{with_bit}
use Rattle.bits.specs.Pairs.{Pair}
use Rattle.graph.specs.Limits.{max_edges}
use Rattle.graph.specs.Network.{Mark, free, required, excluded}
use Rattle.tree_theory.specs.Valid.{is_required, is_excluded}
use Rattle.machine.specs.Machine.{Marks, frees}
use Rattle.mark_rows.specs.MarkRows.{required_row, excluded_row, marks_in_pair}
use Rattle.mark_rows.specs.MarkRows.{row_words, rows_of, required_in, excluded_in, marks_in_rows, SixWords, RowsFit}
use Rattle.mark_rows.specs.TwoRows.{required_again}
use Rattle.mark_rows.proofs.TwoRows.{marks_again, excluded_again, frees_pair}
use Rattle.mark_rows.specs.TwoRows.{required_row-at, excluded_row-at}
use Rattle.mark_rows.specs.Remarking.{now_required, required_pair, now_excluded, excluded_pair}
use Rattle.mark_rows.specs.SixWords.{append_right, required_size, rows_size, required_of_lem, excluded_of, rows_small, within, rows_pair_of, halves, p, with_edge}

set_right : (xs ys : List ℕ) (i a : ℕ) → set (xs ++ ys) (length xs + i) a ≡ xs ++ set ys i a
set_right [] ys i a = ap (λ (k : ℕ). set ys k a) (omega arith)
set_right (x ∷ xs) ys i a =
    let e : suc (length xs) + i ≡ suc (length xs + i) = omega arith in
    ap (λ (k : ℕ). set (x ∷ xs ++ ys) k a) e ∙ ap (λ (l : List ℕ). x ∷ l) (set_right xs ys i a)

-- ---- the words of marks

module _ (x : Marks) where
  pub rows_six : SixWords (rows_of x)
  rows_six = record { size = rows_size x; small = rows_small x }

-- MARKS, TO WORDS AND BACK
module _ (m : ℕ) (x : Marks) (few : m ≤ max_edges) (long : length x ≡ m) where
  pub rows_fit : RowsFit m (rows_of x)
  rows_fit = record {
    apart = rw (required_of_lem x, excluded_of x) (rows_pair_of m x few long).apart;
    clear_required = rw (required_of_lem x) (rows_pair_of m x few long).clear₁;
    clear_excluded = rw (excluded_of x) (rows_pair_of m x few long).clear₂;
  }

  pub rows_back : marks_in_rows m (rows_of x) ≡ x
  unfolding marks_in_rows
  rows_back =
      ap₂ (marks_in_pair m) (required_of_lem x) (excluded_of x)
      ∙ ap (λ (n : ℕ). marks_in_pair n (required_row row_words x) (excluded_row row_words x)) (sym long)
      ∙ marks_again row_words x (within m x few long)

module _ (m : ℕ) (l : List ℕ) (few : m ≤ max_edges) (six : SixWords l) (f : RowsFit m l) where
  pub rows_again : rows_of (marks_in_rows m l) ≡ l
  unfolding rows_of marks_in_rows
  rows_again =
      ap₂ (λ (a b : List ℕ). a ++ b) (required_again row_words m (required_in l) (excluded_in l) (p m l few six f))
      (excluded_again row_words m (required_in l) (excluded_in l) (p m l few six f))
      ∙ halves l six.size

  -- THE FREE EDGES: "m less the set bits of both rows"
  pub frees_rows : frees (marks_in_rows m l) ≡ m - row_ones (required_in l) - row_ones (excluded_in l)
  unfolding marks_in_rows
  frees_rows = frees_pair row_words m (required_in l) (excluded_in l) (p m l few six f)

module _ (m : ℕ) (x : Marks) (few : m ≤ max_edges) (long : length x ≡ m) (k : ℕ) (low : k < m) (off : get_or x k free ≡ free) where
  abbrev r : List ℕ
  r = required_row row_words x

  abbrev s : List ℕ
  s = excluded_row row_words x

  pair : Pair row_words m r s
  pair = rows_pair_of m x few long

  off₁ : digit r (suc k) ≡ false
  off₁ = required_row-at row_words x (suc k) (omega arith) (omega arith) ∙ ap is_required off

  off₂ : digit s (suc k) ≡ false
  off₂ = excluded_row-at row_words x (suc k) (omega arith) (omega arith) ∙ ap is_excluded off

  again : marks_in_pair m r s ≡ x
  again = ap (λ (n : ℕ). marks_in_pair n r s) (sym long) ∙ marks_again row_words x (within m x few long)

  same_place : (y : Mark) → set (marks_in_pair m r s) (suc k - 1) y ≡ set x k y
  same_place y = let e : suc k - 1 ≡ k = omega arith in ap₂ (λ (l : Marks) (i : ℕ). set l i y) again e

  same : suc k - 1 ≡ k
  same = omega arith

  room : k / 64 < length r
  room = omega (arith, required_size x)

  -- AN EDGE REQUIRED
  pub rows_required : rows_of (set x k required) ≡ with_edge 0 (rows_of x) k
  unfolding rows_of with_bit
  rows_required =
      ap rows_of (sym (now_required row_words m r s pair (suc k) (omega arith) (omega arith) off₁ off₂ ∙ same_place required))
      ∙ ap₂ (λ (a b : List ℕ). a ++ b)
      (required_again row_words m (with_bit r (suc k)) s (required_pair row_words m r s pair (suc k) (omega arith) (omega arith) off₁ off₂))
      (excluded_again row_words m (with_bit r (suc k)) s (required_pair row_words m r s pair (suc k) (omega arith) (omega arith) off₁ off₂))
      ∙ goal
    where
      goal : with_bit r (suc k) ++ s ≡ with_edge 0 (r ++ s) k
      goal =
          let z : k / 64 ≡ 0 + k / 64 = omega arith in
          ap (λ (i : ℕ). set r (i / 64) (get_or r (i / 64) 0 + 2 ^ (i % 64)) ++ s) same
          ∙ sym (set-append_left r s (k / 64) (get_or r (k / 64) 0 + 2 ^ (k % 64)) room)
          ∙ ap₂ (λ (i v : ℕ). set (r ++ s) i (v + 2 ^ (k % 64))) z
          (sym (get_or-append r s 0 (k / 64) room) ∙ ap (λ (i : ℕ). get_or (r ++ s) i 0) z)

  -- AN EDGE EXCLUDED
  pub rows_excluded : rows_of (set x k excluded) ≡ with_edge row_words (rows_of x) k
  unfolding rows_of with_bit
  rows_excluded =
      ap rows_of (sym (now_excluded row_words m r s pair (suc k) (omega arith) (omega arith) off₁ off₂ ∙ same_place excluded))
      ∙ ap₂ (λ (a b : List ℕ). a ++ b)
      (required_again row_words m r (with_bit s (suc k)) (excluded_pair row_words m r s pair (suc k) (omega arith) (omega arith) off₁ off₂))
      (excluded_again row_words m r (with_bit s (suc k)) (excluded_pair row_words m r s pair (suc k) (omega arith) (omega arith) off₁ off₂))
      ∙ goal
    where
      goal : r ++ with_bit s (suc k) ≡ with_edge row_words (r ++ s) k
      goal =
          ap (λ (i : ℕ). r ++ set s (i / 64) (get_or s (i / 64) 0 + 2 ^ (i % 64))) same
          ∙ sym (set_right r s (k / 64) (get_or s (k / 64) 0 + 2 ^ (k % 64)))
          ∙ ap₂ (λ (i v : ℕ). set (r ++ s) (i + k / 64) (v + 2 ^ (k % 64))) (required_size x)
          (sym (append_right r s row_words (k / 64) (required_size x)))
