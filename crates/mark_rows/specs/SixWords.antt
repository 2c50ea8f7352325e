-- The six words of a node: what two rows' laws say of them, and that marks become words. (There and back, the free edges, and a free edge
-- marked otherwise: proofs/SixWords.)
use Rattle.std.specs.Prelude.{◌≡◌, ◌↔◌, length}
use Rattle.std.proofs.Math.Path.{sym, ap, ap₂}
use Rattle.std.proofs.Common.{◌∙◌, subst, ext_get_or, get_or-append-add}
use mathlib.Core.List.{List, ◌++◌}
use Prim.Native.Nat.{ℕ, zero, suc, ◌+◌, ◌-◌, ◌*◌, ◌/◌, ◌%◌, ◌^◌, ◌≤◌, ◌<◌}
use native.Mathlib.Omega.{arith}
use Rattle.std.proofs.Math.Decide.{dec_le}
use Rattle.std.proofs.Math.ListN.{get_or, set, length-append, get_or-append}
use Rattle.std.specs.Int.Bits.{bit_and}
use Rattle.lists.specs.Fill.{fill-size, fill-at, fill_is, fit, fit-size, fit_at}
use Rattle.bits.specs.Digits.{bit_of}
use Rattle.bits.specs.Rows.{digit, digit_at, Row, row_made, row_of-row, row_ones}
use Rattle.bits.proofs.Rows.{row_ext}
use Rattle.bits.specs.Pairs.{Pair}
use Rattle.bits.proofs.Pairs.{clear_words, apart_words}
use Rattle.graph.specs.Limits.{max_edges}
use Rattle.graph.specs.Network.{free}
use Rattle.tree_theory.specs.Valid.{is_required, is_excluded}
use Rattle.machine.specs.Machine.{Marks}
use Rattle.machine.specs.Requireds.{requireds}
use Rattle.mark_rows.specs.MarkRows.{mark_at, required_row, excluded_row, mark_bits}
use Rattle.mark_rows.specs.MarkRows.{row_words, node_words, rows_of, required_in, excluded_in, marks_in_rows, SixWords, RowsFit}
use Rattle.mark_rows.specs.TwoRows as T
use Rattle.mark_rows.specs.TwoRows.{rows_pair, requireds_pair}
use Rattle.mark_rows.specs.TwoRows.{required_row-at, excluded_row-at}

-- ---- two rows one after the other

pub append_right : (xs ys : List ℕ) (n i : ℕ) → length xs ≡ n → get_or (xs ++ ys) (n + i) 0 ≡ get_or ys i 0
append_right xs ys n i e = ap (λ (k : ℕ). get_or (xs ++ ys) (k + i) 0) (sym e) ∙ get_or-append-add xs ys i 0

-- ---- the two rows in six words

pub required_word : (l : List ℕ) (i : ℕ) → i < row_words → get_or (required_in l) i 0 ≡ get_or l i 0
unfolding required_in
required_word l i h = fit_at row_words 0 l i h

pub excluded_word : (l : List ℕ) (i : ℕ) → i < row_words → get_or (excluded_in l) i 0 ≡ get_or l (row_words + i) 0
unfolding excluded_in
excluded_word l i h = fill-at row_words (λ j. get_or l (row_words + j) 0) i 0 h

-- edge k + 1 in either row
pub required_bit : (l : List ℕ) (k : ℕ) → k < 64 * row_words → digit (required_in l) (suc k) ≡ bit_of (get_or l (k / 64) 0) (k % 64)
required_bit l k h =
    let e : suc k ≡ suc (64 * (k / 64) + k % 64) = omega arith in
    ap (digit (required_in l)) e
    ∙ digit_at (required_in l) (k / 64) (k % 64) (omega arith)
    ∙ ap (λ (x : ℕ). bit_of x (k % 64)) (required_word l (k / 64) (omega arith))

pub excluded_bit : (l : List ℕ) (k : ℕ) → k < 64 * row_words → digit (excluded_in l) (suc k) ≡ bit_of (get_or l (row_words + k / 64) 0) (k % 64)
excluded_bit l k h =
    let e : suc k ≡ suc (64 * (k / 64) + k % 64) = omega arith in
    ap (digit (excluded_in l)) e
    ∙ digit_at (excluded_in l) (k / 64) (k % 64) (omega arith)
    ∙ ap (λ (x : ℕ). bit_of x (k % 64)) (excluded_word l (k / 64) (omega arith))

pub required_row_lem : (l : List ℕ) → SixWords l → Row row_words (required_in l)
unfolding required_in
required_row_lem l six =
    row_made row_words (required_in l) (fit-size row_words 0 l) (λ i h. rw (required_word l i h) (six.small i (omega arith)))

pub excluded_row_lem : (l : List ℕ) → SixWords l → Row row_words (excluded_in l)
unfolding excluded_in
excluded_row_lem l six =
    row_made row_words (excluded_in l) (fill-size row_words (λ j. get_or l (row_words + j) 0))
    (λ i h. rw (excluded_word l i h) (six.small (row_words + i) (omega arith)))

pub fit_pair : (m : ℕ) (l : List ℕ) → m ≤ max_edges → SixWords l → RowsFit m l → Pair row_words m (required_in l) (excluded_in l)
fit_pair m l few six f = record {
  within = omega arith;
  first = required_row_lem l six;
  second = excluded_row_lem l six;
  apart = f.apart;
  clear₁ = f.clear_required;
  clear₂ = f.clear_excluded;
}

-- 24's test word by word: no bit in common, and no bit past m
abbrev pub WordsFit : ℕ → List ℕ → Type 0
WordsFit m l =
    (i : ℕ) → i < row_words
    → (bit_and (get_or l i 0) (get_or l (row_words + i) 0) ≡ 0) × (get_or l i 0 < 2 ^ (m - 64 * i)) × (get_or l (row_words + i) 0 < 2 ^ (m - 64 * i))

pub words-fit : (m : ℕ) (l : List ℕ) → SixWords l → RowsFit m l ↔ WordsFit m l
words-fit m l six = (
  λ f i h. (
    ap₂ bit_and (sym (required_word l i h)) (sym (excluded_word l i h))
        ∙ (apart_words row_words (required_in l) (excluded_in l) (required_row_lem l six) (excluded_row_lem l six)).0 f.apart i h,
    rw (required_word l i h) at ((clear_words row_words m (required_in l) (required_row_lem l six)).0 f.clear_required i h),
    rw (excluded_word l i h) at ((clear_words row_words m (excluded_in l) (excluded_row_lem l six)).0 f.clear_excluded i h),
  ),
  λ w. record {
    apart =
        (apart_words row_words (required_in l) (excluded_in l) (required_row_lem l six) (excluded_row_lem l six)).1
        (λ i h. ap₂ bit_and (required_word l i h) (excluded_word l i h) ∙ (w i h).0);
    clear_required = (clear_words row_words m (required_in l) (required_row_lem l six)).1 (λ i h. rw (required_word l i h) (w i h).1);
    clear_excluded = (clear_words row_words m (excluded_in l) (excluded_row_lem l six)).1 (λ i h. rw (excluded_word l i h) (w i h).2);
  },
)

-- ---- the words of marks

module _ (x : Marks) where
  pub required_size : length (required_row row_words x) ≡ row_words
  unfolding required_row
  required_size = (row_of-row row_words (λ k. is_required (mark_at x k))).size

  excluded_size : length (excluded_row row_words x) ≡ row_words
  unfolding excluded_row
  excluded_size = (row_of-row row_words (λ k. is_excluded (mark_at x k))).size

  pub rows_size : length (rows_of x) ≡ node_words
  unfolding rows_of
  rows_size = omega (arith, length-append (required_row row_words x) (excluded_row row_words x), required_size, excluded_size)

  pub required_of_lem : required_in (rows_of x) ≡ required_row row_words x
  unfolding required_in rows_of fit
  required_of_lem =
      fill_is row_words (λ i. get_or (rows_of x) i 0) (required_row row_words x) 0 required_size
      (λ i h. get_or-append (required_row row_words x) (excluded_row row_words x) 0 i (omega (arith, required_size)))

  pub excluded_of : excluded_in (rows_of x) ≡ excluded_row row_words x
  unfolding excluded_in rows_of
  excluded_of =
      fill_is row_words (λ i. get_or (rows_of x) (row_words + i) 0) (excluded_row row_words x) 0 excluded_size
      (λ i h. append_right (required_row row_words x) (excluded_row row_words x) row_words i required_size)

  pub rows_small : (i : ℕ) → i < node_words → get_or (rows_of x) i 0 < 2 ^ 64
  unfolding rows_of required_row excluded_row
  rows_small i h = go (dec_le (suc i) row_words)
    where
      go : Dec (i < row_words) → get_or (required_row row_words x ++ excluded_row row_words x) i 0 < 2 ^ 64
      go (yes b) =
          rw (get_or-append (required_row row_words x) (excluded_row row_words x) 0 i (omega (arith, required_size)))
          ((row_of-row row_words (λ k. is_required (mark_at x k))).fits i)
      go (no b) =
          let e : i ≡ row_words + (i - row_words) = omega arith in
          let f : get_or (required_row row_words x ++ excluded_row row_words x) i 0 ≡ get_or (excluded_row row_words x) (i - row_words) 0
          = ap (λ (k : ℕ). get_or (required_row row_words x ++ excluded_row row_words x) k 0) e
          ∙ append_right (required_row row_words x) (excluded_row row_words x) row_words (i - row_words) required_size in
          rw f ((row_of-row row_words (λ k. is_excluded (mark_at x k))).fits (i - row_words))

-- MARKS, TO WORDS AND BACK
module _ (m : ℕ) (x : Marks) (few : m ≤ max_edges) (long : length x ≡ m) where
  pub within : length x ≤ 64 * row_words
  within = omega arith

  pub rows_pair_of : Pair row_words m (required_row row_words x) (excluded_row row_words x)
  rows_pair_of = subst (λ (n : ℕ). Pair row_words n (required_row row_words x) (excluded_row row_words x)) long (rows_pair row_words x within)

-- WORDS THAT FIT, TO MARKS AND BACK
pub halves : (l : List ℕ) → length l ≡ node_words → required_in l ++ excluded_in l ≡ l
halves l e =
    ext_get_or 0 (required_in l ++ excluded_in l) l (omega (arith, length-append (required_in l) (excluded_in l), size₁, size₂))
    (λ i h. go i (omega (arith, length-append (required_in l) (excluded_in l), size₁, size₂)) (dec_le (suc i) row_words))
  where
    size₁ : length (required_in l) ≡ row_words
    size₁ = unfold required_in in fit-size row_words 0 l

    size₂ : length (excluded_in l) ≡ row_words
    size₂ = unfold excluded_in in fill-size row_words (λ j. get_or l (row_words + j) 0)

    go : (i : ℕ) → i < node_words → Dec (i < row_words) → get_or (required_in l ++ excluded_in l) i 0 ≡ get_or l i 0
    go i u (yes b) = get_or-append (required_in l) (excluded_in l) 0 i (omega (arith, size₁)) ∙ required_word l i b
    go i u (no b) =
        let f : i ≡ row_words + (i - row_words) = omega arith in
        ap (λ (k : ℕ). get_or (required_in l ++ excluded_in l) k 0) f
        ∙ append_right (required_in l) (excluded_in l) row_words (i - row_words) size₁
        ∙ excluded_word l (i - row_words) (omega arith)
        ∙ ap (λ (k : ℕ). get_or l k 0) (sym f)

module _ (m : ℕ) (l : List ℕ) (few : m ≤ max_edges) (six : SixWords l) (f : RowsFit m l) where
  pub p : Pair row_words m (required_in l) (excluded_in l)
  p = fit_pair m l few six f

  -- THE REQUIRED EDGES: the set bits of their row
  pub requireds_rows : requireds (marks_in_rows m l) ≡ row_ones (required_in l)
  unfolding marks_in_rows
  requireds_rows = requireds_pair row_words m (required_in l) (excluded_in l) p

pub marks-length : (m : ℕ) (l : List ℕ) → length (marks_in_rows m l) ≡ m
unfolding marks_in_rows
marks-length m l = T.marks-size m (required_in l) (excluded_in l)

-- the mark at place k, for any six words
pub mark_bits_lem : (m : ℕ) (l : List ℕ) (k : ℕ) → m ≤ max_edges → k < m
    → get_or (marks_in_rows m l) k free ≡ mark_bits (bit_of (get_or l (k / 64) 0) (k % 64)) (bit_of (get_or l (row_words + k / 64) 0) (k % 64))
unfolding marks_in_rows
mark_bits_lem m l k few h =
    T.marks-at m (required_in l) (excluded_in l) (suc k) (omega arith) (omega arith)
    ∙ ap₂ mark_bits (required_bit l k (omega arith)) (excluded_bit l k (omega arith))

-- ---- a free edge marked otherwise: one bit set

-- the bit of the edge at place k, set in the row that starts at word `from`
abbrev pub with_edge : ℕ → List ℕ → ℕ → List ℕ
with_edge from l k = set l (from + k / 64) (get_or l (from + k / 64) 0 + 2 ^ (k % 64))

-- ---- words by their bits

-- six words whose bits are those of marks are the words of the marks
module _ (x : Marks) (l : List ℕ) (six : SixWords l)
    (on : (w j : ℕ) → w < row_words → j < 64 → bit_of (get_or l w 0) j ≡ is_required (get_or x (64 * w + j) free))
    (off : (w j : ℕ) → w < row_words → j < 64 → bit_of (get_or l (row_words + w) 0) j ≡ is_excluded (get_or x (64 * w + j) free)) where
  pub rows_is : l ≡ rows_of x
  unfolding rows_of required_row excluded_row
  rows_is =
      sym (halves l six.size)
      ∙ ap₂ (λ (a b : List ℕ). a ++ b)
      (row_ext row_words (required_in l) (required_row row_words x) (required_row_lem l six) (row_of-row row_words (λ k. is_required (mark_at x k)))
      (λ k a b. required_at k a b ∙ sym (required_row-at row_words x k a b)))
      (row_ext row_words (excluded_in l) (excluded_row row_words x) (excluded_row_lem l six) (row_of-row row_words (λ k. is_excluded (mark_at x k)))
      (λ k a b. excluded_at k a b ∙ sym (excluded_row-at row_words x k a b)))
    where
      required_at : (k : ℕ) → 1 ≤ k → k ≤ 64 * row_words → digit (required_in l) k ≡ is_required (mark_at x k)
      required_at zero a b = absurd (let z : suc 0 ≤ 0 = omega arith in omega arith)
      required_at (suc k) a b =
          let e : 64 * (k / 64) + k % 64 ≡ k = omega arith in
          required_bit l k (omega arith)
          ∙ on (k / 64) (k % 64) (omega arith) (omega arith)
          ∙ ap (λ (i : ℕ). is_required (get_or x i free)) e

      excluded_at : (k : ℕ) → 1 ≤ k → k ≤ 64 * row_words → digit (excluded_in l) k ≡ is_excluded (mark_at x k)
      excluded_at zero a b = absurd (let z : suc 0 ≤ 0 = omega arith in omega arith)
      excluded_at (suc k) a b =
          let e : 64 * (k / 64) + k % 64 ≡ k = omega arith in
          excluded_bit l k (omega arith)
          ∙ off (k / 64) (k % 64) (omega arith) (omega arith)
          ∙ ap (λ (i : ℕ). is_excluded (get_or x i free)) e
