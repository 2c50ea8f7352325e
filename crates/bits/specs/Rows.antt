-- Rows of 64-bit words that hold a digit for each of the numbers 1, 2, ..: number k is digit (k − 1) % 64 of word (k − 1) / 64, for any
-- number of words W; and the row of given digits. (A row is what its digits make, and its set digits are counted word by word: proofs/Rows.)
-- Assumes nothing.
use Rattle.std.specs.Prelude.{◌≡◌, Bool, false, List, ℕ, suc, ◌+◌, ◌-◌, ◌*◌, ◌/◌, ◌%◌, ◌^◌, ◌≤◌, ◌<◌, length, get_or}
use Rattle.std.proofs.Common.{ap, ap₂, ◌∙◌, arith}
use Rattle.std.proofs.Math.Decide.{dec_le}
use Rattle.std.proofs.Math.ListN.{get_or-eq_default}
use Rattle.std.specs.Int.Count.{ones}
use Rattle.lists.specs.Fill.{fill, fill-size, fill-at}
use Rattle.lists.specs.Weights.{weight}
use Rattle.bits.specs.Digits.{bit_of, zero_bit, word_of, word_lt, word-bit}

-- "one row of 64-bit words": which word, and which digit of it
abbrev pub word_no : ℕ → ℕ
word_no k = (k - 1) / 64

abbrev pub bit_no : ℕ → ℕ
bit_no k = (k - 1) % 64

unfoldable pub digit : List ℕ → ℕ → Bool
unfolding bit_of
digit r k = bit_of (get_or r (word_no k) 0) (bit_no k)

-- W words of 64 bits
pub record Row (W : ℕ) (r : List ℕ) : Type 0 where
  pub size : length r ≡ W
  pub fits : (i : ℕ) → get_or r i 0 < 2 ^ 64

pub row_made : (W : ℕ) (r : List ℕ) → length r ≡ W → ((i : ℕ) → i < W → get_or r i 0 < 2 ^ 64) → Row W r
row_made W r e h = record { size = e; fits = λ i. go i (dec_le (suc i) W) }
  where
    go : (i : ℕ) → Dec (i < W) → get_or r i 0 < 2 ^ 64
    go i (yes l) = h i l
    go i (no l) = rw (get_or-eq_default r 0 {n = i} (omega arith)) (omega arith)

-- past its words a row is clear
pub digit_past : (r : List ℕ) (k : ℕ) → 64 * length r < k → digit r k ≡ false
unfolding digit
digit_past r k h =
    ap (λ (x : ℕ). bit_of x (bit_no k)) (get_or-eq_default r 0 {n = word_no k} (omega arith)) ∙ zero_bit (bit_no k)

-- the digit j of word i is that of number 64 · i + j + 1
pub digit_at : (r : List ℕ) (i j : ℕ) → j < 64 → digit r (suc (64 * i + j)) ≡ bit_of (get_or r i 0) j
unfolding digit
digit_at r i j h =
    let e : (suc (64 * i + j) - 1) / 64 ≡ i = omega arith in
    let f : (suc (64 * i + j) - 1) % 64 ≡ j = omega arith in
    ap₂ (λ (x y : ℕ). bit_of (get_or r x 0) y) e f

-- ---- the row of given digits

unfoldable pub row_of : ℕ → (ℕ → Bool) → List ℕ
unfolding fill word_of
row_of W f = fill W (λ i. word_of 64 (λ j. f (suc (64 * i + j))))

pub row_of-row : (W : ℕ) (f : ℕ → Bool) → Row W (row_of W f)
unfolding row_of
row_of-row W f =
    row_made W (row_of W f) (fill-size W word)
    (λ i l. rw (fill-at W word i 0 l) (word_lt 64 (λ j. f (suc (64 * i + j)))))
  where
    word : ℕ → ℕ
    word i = word_of 64 (λ j. f (suc (64 * i + j)))

pub digit-row_of : (W : ℕ) (f : ℕ → Bool) (k : ℕ) → 1 ≤ k → k ≤ 64 * W → digit (row_of W f) k ≡ f k
unfolding row_of digit
digit-row_of W f k l u =
    let e : suc (64 * word_no k + bit_no k) ≡ k = omega arith in
    ap (λ (x : ℕ). bit_of x (bit_no k)) (fill-at W (λ i. word_of 64 (λ j. f (suc (64 * i + j)))) (word_no k) 0 (omega arith))
    ∙ word-bit 64 (λ j. f (suc (64 * word_no k + j))) (bit_no k) (omega arith)
    ∙ ap f e

-- "the set bits": of a row, word by word
abbrev pub row_ones : List ℕ → ℕ
row_ones r = weight ones r
