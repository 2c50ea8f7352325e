-- Rows of words: a row is what its digits make, and its set digits are counted word by word. Assumes nothing.
use Rattle.std.specs.Prelude.{◌≡◌, ◌↔◌, Bool, false, List, [], ◌∷◌, ℕ, suc, ◌+◌, ◌-◌, ◌*◌, ◌^◌, ◌≤◌, ◌<◌, length, get_or}
use Rattle.std.proofs.Common.{sym, ap, ◌∙◌, arith, ext_get_or}
use Rattle.std.proofs.Math.Decide.{dec_le}
use Rattle.lists.specs.Weights.{weight}
use Rattle.bits.specs.Digits.{bit_of, bit_ext}
use Rattle.bits.specs.Counting.{count, count_same, count_none, count_parts, count_past, ones_count}
use Rattle.bits.specs.Rows.{word_no, bit_no, digit, Row, digit_past, digit_at, row_of, row_of-row, digit-row_of, row_ones}

-- clear where the digits given are
pub row_of_clear : (W : ℕ) (f : ℕ → Bool) (k : ℕ) → 1 ≤ k → f k ≡ false → digit (row_of W f) k ≡ false
row_of_clear W f k l h = go (dec_le k (64 * W))
  where
    go : Dec (k ≤ 64 * W) → digit (row_of W f) k ≡ false
    go (yes u) = digit-row_of W f k l u ∙ h
    go (no u) = digit_past (row_of W f) k (omega (arith, (row_of-row W f).size))

-- ---- a row is what its digits make

pub row_ext : (W : ℕ) (r s : List ℕ) → Row W r → Row W s → ((k : ℕ) → 1 ≤ k → k ≤ 64 * W → digit r k ≡ digit s k) → r ≡ s
row_ext W r s hr hs e =
    ext_get_or 0 r s (hr.size ∙ sym hs.size)
    (λ i l. bit_ext 64 (get_or r i 0) (get_or s i 0) (hr.fits i) (hs.fits i)
    (λ j h. sym (digit_at r i j h) ∙ e (suc (64 * i + j)) (omega arith) (omega (arith, hr.size)) ∙ digit_at s i j h))

-- ROWS ARE EQUAL EXACTLY WHERE THEIR DIGITS ARE
pub rows_same : (W : ℕ) (r s : List ℕ) → Row W r → Row W s → (r ≡ s) ↔ ((k : ℕ) → 1 ≤ k → k ≤ 64 * W → digit r k ≡ digit s k)
rows_same W r s hr hs = ((λ e k l u. ap (λ (x : List ℕ). digit x k) e), row_ext W r s hr hs)

pub row_of-same : (W : ℕ) (f h : ℕ → Bool) → ((k : ℕ) → 1 ≤ k → k ≤ 64 * W → f k ≡ h k) → row_of W f ≡ row_of W h
row_of-same W f h e =
    row_ext W (row_of W f) (row_of W h) (row_of-row W f) (row_of-row W h)
    (λ k l u. digit-row_of W f k l u ∙ e k l u ∙ sym (digit-row_of W h k l u))

pub row_of_of : (W : ℕ) (r : List ℕ) → Row W r → row_of W (digit r) ≡ r
row_of_of W r h = row_ext W (row_of W (digit r)) r (row_of-row W (digit r)) h (digit-row_of W (digit r))

-- ---- how many digits are set

digit_head : (w : ℕ) (ws : List ℕ) (k : ℕ) → 1 ≤ k → k ≤ 64 → digit (w ∷ ws) k ≡ bit_of w (k - 1)
digit_head w ws k l u =
    let e : k ≡ suc (64 * 0 + (k - 1)) = omega arith in ap (digit (w ∷ ws)) e ∙ digit_at (w ∷ ws) 0 (k - 1) (omega arith)

digit_tail : (w : ℕ) (ws : List ℕ) (k : ℕ) → 1 ≤ k → digit (w ∷ ws) (64 + k) ≡ digit ws k
digit_tail w ws k l =
    let e : 64 + k ≡ suc (64 * suc (word_no k) + bit_no k) = omega arith in
    let f : suc (64 * word_no k + bit_no k) ≡ k = omega arith in
    ap (digit (w ∷ ws)) e
    ∙ digit_at (w ∷ ws) (suc (word_no k)) (bit_no k) (omega arith)
    ∙ sym (digit_at ws (word_no k) (bit_no k) (omega arith))
    ∙ ap (digit ws) f

ones_words : (r : List ℕ) → ((i : ℕ) → get_or r i 0 < 2 ^ 64) → row_ones r ≡ count (64 * length r) (digit r)
unfolding weight
ones_words [] h = sym (count_none (64 * 0) (digit []) (λ k l u. digit_past [] k (omega arith)))
ones_words (w ∷ ws) h =
    let e : 64 * suc (length ws) ≡ 64 + 64 * length ws = omega arith in
    omega (
      arith,
      ap (λ (n : ℕ). count n (digit (w ∷ ws))) e,
      count_parts 64 (64 * length ws) (digit (w ∷ ws)),
      ones_count 64 w (h 0),
      count_same 64 (digit (w ∷ ws)) (λ k. bit_of w (k - 1)) (digit_head w ws),
      ones_words ws (λ i. h (suc i)),
      count_same (64 * length ws) (λ k. digit (w ∷ ws) (64 + k)) (digit ws) (λ k l u. digit_tail w ws k l),
    )

-- THE SET DIGITS OF A ROW are as many as the numbers whose digit is set
pub ones_row : (W : ℕ) (r : List ℕ) → Row W r → row_ones r ≡ count (64 * W) (digit r)
ones_row W r h = ones_words r h.fits ∙ ap (λ (n : ℕ). count (64 * n) (digit r)) h.size

-- and of a row that is clear past m, as those of 1 to m
pub ones_clear : (W m : ℕ) (r : List ℕ) → Row W r → m ≤ 64 * W → ((k : ℕ) → m < k → digit r k ≡ false) → row_ones r ≡ count m (digit r)
ones_clear W m r h l c = ones_row W r h ∙ count_past m (64 * W) (digit r) l c
