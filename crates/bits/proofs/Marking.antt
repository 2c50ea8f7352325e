-- One digit of a row set, where it is clear, or cleared, where it is set: that digit changes and no other, the row stays a row, and it has one set digit more or less. Assumes nothing.
use Rattle.std.specs.Prelude.{◌≡◌, ◌≢◌, true, false, List, [], ◌∷◌, ℕ, zero, suc, ◌+◌, ◌-◌, ◌*◌, ◌^◌, ◌≤◌, ◌<◌, length, get_or, set}
use Rattle.std.proofs.Common.{sym, ◌∙◌, length-set, get_or-set_same, get_or-set_other}
use Rattle.std.proofs.Math.Path.{ap}
use native.Mathlib.Omega.{arith}
use Rattle.std.proofs.Math.Decide.{ℕ_discrete}
use Rattle.std.specs.Int.Count.{ones}
use Rattle.lists.specs.Sets.{◌⊕◌, ◌⊖◌, plus_self, plus_other, minus_self, minus_other}
use Rattle.lists.specs.Weights.{weight}
use Rattle.bits.specs.Digits.{bit_of}
use Rattle.bits.specs.Changes.{set_here, set_there, set-lt, set_ones, clear_here, clear_there, clear_ones}
use Rattle.bits.specs.Rows.{word_no, bit_no, digit, Row, row_made, row_ones}
use Rattle.bits.specs.Marking.{with_bit, without_bit}

-- a word put in place of another
weight-set : (w : ℕ → ℕ) (l : List ℕ) (i y : ℕ) → i < length l → weight w (set l i y) + w (get_or l i 0) ≡ weight w l + w y
unfolding weight
weight-set w [] i y h = absurd (let z : suc 0 ≤ 0 = omega arith in omega arith)
weight-set w (x ∷ l) zero y h = omega arith
weight-set w (x ∷ l) (suc i) y h = omega (arith, weight-set w l i y (omega arith))

-- k's word becomes y
module _ (W : ℕ) (r : List ℕ) (hr : Row W r) (k : ℕ) (l : 1 ≤ k) (u : k ≤ 64 * W) (y : ℕ) where
  here : word_no k < length r
  here = omega (arith, hr.size)

  put-row : y < 2 ^ 64 → Row W (set r (word_no k) y)
  put-row h = row_made W (set r (word_no k) y) (length-set r (word_no k) y ∙ hr.size) (λ i b. go i (ℕ_discrete i (word_no k)))
    where
      go : (i : ℕ) → Dec (i ≡ word_no k) → get_or (set r (word_no k) y) i 0 < 2 ^ 64
      go i (yes e) = rw (e, get_or-set_same r (word_no k) y 0 here) h
      go i (no e) = rw (get_or-set_other r (word_no k) i y 0 e) (hr.fits i)

  put_here : digit (set r (word_no k) y) k ≡ bit_of y (bit_no k)
  unfolding digit
  put_here = ap (λ (x : ℕ). bit_of x (bit_no k)) (get_or-set_same r (word_no k) y 0 here)

  -- where y has the digits of the word that it replaces, all but k's
  put_there : ((j : ℕ) → j ≢ bit_no k → bit_of y j ≡ bit_of (get_or r (word_no k) 0) j) → (i : ℕ) → 1 ≤ i → i ≢ k
      → digit (set r (word_no k) y) i ≡ digit r i
  unfolding digit
  put_there same i li n = go (ℕ_discrete (word_no i) (word_no k))
    where
      go : Dec (word_no i ≡ word_no k) → bit_of (get_or (set r (word_no k) y) (word_no i) 0) (bit_no i) ≡ bit_of (get_or r (word_no i) 0) (bit_no i)
      go (yes e) =
          let apart : bit_no i ≢ bit_no k = λ f. n (omega arith) in
          ap (λ (x : ℕ). bit_of (get_or (set r (word_no k) y) x 0) (bit_no i)) e
          ∙ ap (λ (x : ℕ). bit_of x (bit_no i)) (get_or-set_same r (word_no k) y 0 here)
          ∙ same (bit_no i) apart
          ∙ ap (λ (x : ℕ). bit_of (get_or r x 0) (bit_no i)) (sym e)
      go (no e) = ap (λ (x : ℕ). bit_of x (bit_no i)) (get_or-set_other r (word_no k) (word_no i) y 0 e)

module _ (W : ℕ) (r : List ℕ) (hr : Row W r) (k : ℕ) (l : 1 ≤ k) (u : k ≤ 64 * W) where
  module _ (c : digit r k ≡ false) where
    pub with_row : Row W (with_bit r k)
    unfolding with_bit digit
    with_row =
        put-row W r hr k l u (get_or r (word_no k) 0 + 2 ^ bit_no k)
        (set-lt 64 (get_or r (word_no k) 0) (bit_no k) (hr.fits (word_no k)) (omega arith) c)

    pub with_here : digit (with_bit r k) k ≡ true
    unfolding with_bit digit
    with_here = put_here W r hr k l u (get_or r (word_no k) 0 + 2 ^ bit_no k) ∙ set_here (get_or r (word_no k) 0) (bit_no k) c

    pub with_there : (i : ℕ) → 1 ≤ i → i ≢ k → digit (with_bit r k) i ≡ digit r i
    unfolding with_bit digit
    with_there =
        put_there W r hr k l u (get_or r (word_no k) 0 + 2 ^ bit_no k) (λ j n. set_there (get_or r (word_no k) 0) (bit_no k) j c n)

    -- THE DIGITS ARE THOSE THAT WERE AND k
    pub with_digits : (i : ℕ) → 1 ≤ i → digit (with_bit r k) i ≡ (digit r ⊕ k) i
    with_digits i li = go (ℕ_discrete i k)
      where
        go : Dec (i ≡ k) → digit (with_bit r k) i ≡ (digit r ⊕ k) i
        go (yes e) = rw e (with_here ∙ sym (plus_self (digit r) k))
        go (no e) = with_there i li e ∙ sym (plus_other (digit r) k i e)

    pub with_ones : row_ones (with_bit r k) ≡ suc (row_ones r)
    unfolding with_bit digit
    with_ones =
        omega (
          arith,
          weight-set ones r (word_no k) (get_or r (word_no k) 0 + 2 ^ bit_no k) (omega (arith, hr.size)),
          set_ones (get_or r (word_no k) 0) (bit_no k) c,
        )

  -- ---- cleared

  module _ (c : digit r k ≡ true) where
    pub without-row : Row W (without_bit r k)
    unfolding without_bit
    without-row = put-row W r hr k l u (get_or r (word_no k) 0 - 2 ^ bit_no k) (omega (arith, hr.fits (word_no k)))

    pub without_here : digit (without_bit r k) k ≡ false
    unfolding without_bit digit
    without_here = put_here W r hr k l u (get_or r (word_no k) 0 - 2 ^ bit_no k) ∙ clear_here (get_or r (word_no k) 0) (bit_no k) c

    pub without_there : (i : ℕ) → 1 ≤ i → i ≢ k → digit (without_bit r k) i ≡ digit r i
    unfolding without_bit digit
    without_there =
        put_there W r hr k l u (get_or r (word_no k) 0 - 2 ^ bit_no k) (λ j n. clear_there (get_or r (word_no k) 0) (bit_no k) j c n)

    -- THE DIGITS ARE THOSE THAT WERE WITHOUT k
    pub without_digits : (i : ℕ) → 1 ≤ i → digit (without_bit r k) i ≡ (digit r ⊖ k) i
    without_digits i li = go (ℕ_discrete i k)
      where
        go : Dec (i ≡ k) → digit (without_bit r k) i ≡ (digit r ⊖ k) i
        go (yes e) = rw e (without_here ∙ sym (minus_self (digit r) k))
        go (no e) = without_there i li e ∙ sym (minus_other (digit r) k i e)

    pub without_ones : suc (row_ones (without_bit r k)) ≡ row_ones r
    unfolding without_bit digit
    without_ones =
        omega (
          arith,
          weight-set ones r (word_no k) (get_or r (word_no k) 0 - 2 ^ bit_no k) (omega (arith, hr.size)),
          clear_ones (get_or r (word_no k) 0) (bit_no k) c,
        )
