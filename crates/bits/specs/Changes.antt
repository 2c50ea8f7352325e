-- One digit of a number set or cleared, by adding or taking off its power of two: no other digit changes, the number stays as long, and
-- it has one set digit more or less. Assumes nothing.
use Rattle.std.specs.Prelude.{◌≡◌, refl, ◌≢◌, true, false, ℕ, zero, suc, ◌+◌, ◌-◌, ◌/◌, ◌%◌, ◌^◌, ◌≤◌, ◌<◌, eqb}
use Rattle.std.proofs.Common.{sym, ap, ◌∙◌, arith, eq-eqb, ne_eqb}
use Rattle.std.proofs.Math.Nat.{pow-succ'}
use Rattle.std.specs.Int.Count.{ones, ones_step}
use Rattle.bits.specs.Digits.{bit_of, bit_low, bit_high, low_set, low_clear}

more-half : (x j : ℕ) → (x + 2 ^ suc j) / 2 ≡ x / 2 + 2 ^ j
more-half x j = omega (arith, pow-succ' 2 j)

more_odd : (x j : ℕ) → (x + 2 ^ suc j) % 2 ≡ x % 2
more_odd x j = omega (arith, pow-succ' 2 j)

-- ---- set

pub set_here : (x j : ℕ) → bit_of x j ≡ false → bit_of (x + 2 ^ j) j ≡ true
set_here x zero h = bit_low (x + 1) ∙ eq-eqb ((x + 1) % 2) 1 (omega (arith, low_clear x h))
set_here x (suc j) h =
    bit_high (x + 2 ^ suc j) j
    ∙ ap (λ (y : ℕ). bit_of y j) (more-half x j)
    ∙ set_here (x / 2) j (sym (bit_high x j) ∙ h)

pub set_there : (x j i : ℕ) → bit_of x j ≡ false → i ≢ j → bit_of (x + 2 ^ j) i ≡ bit_of x i
set_there x zero zero h n = absurd (n refl)
set_there x zero (suc i) h n =
    let e : (x + 1) / 2 ≡ x / 2 = omega (arith, low_clear x h) in
    bit_high (x + 1) i ∙ ap (λ (y : ℕ). bit_of y i) e ∙ sym (bit_high x i)
set_there x (suc j) zero h n =
    bit_low (x + 2 ^ suc j) ∙ ap (λ (y : ℕ). eqb y 1) (more_odd x j) ∙ sym (bit_low x)
set_there x (suc j) (suc i) h n =
    bit_high (x + 2 ^ suc j) i
    ∙ ap (λ (y : ℕ). bit_of y i) (more-half x j)
    ∙ set_there (x / 2) j i (sym (bit_high x j) ∙ h) (λ e. n (ap suc e))
    ∙ sym (bit_high x i)

pub set-lt : (n x j : ℕ) → x < 2 ^ n → j < n → bit_of x j ≡ false → x + 2 ^ j < 2 ^ n
set-lt zero x j h l c = absurd (let z : suc 0 ≤ 0 = omega arith in omega arith)
set-lt (suc n) x zero h l c = omega (arith, pow-succ' 2 n, low_clear x c)
set-lt (suc n) x (suc j) h l c =
    omega (
      arith,
      pow-succ' 2 n,
      pow-succ' 2 j,
      set-lt n (x / 2) j (omega (arith, pow-succ' 2 n)) (omega arith) (sym (bit_high x j) ∙ c),
    )

pub set_ones : (x j : ℕ) → bit_of x j ≡ false → ones (x + 2 ^ j) ≡ suc (ones x)
set_ones x zero h =
    let e : (x + 1) / 2 ≡ x / 2 = omega (arith, low_clear x h) in
    omega (arith, ones_step (x + 1), ones_step x, ap ones e, low_clear x h)
set_ones x (suc j) h =
    omega (
      arith,
      ones_step (x + 2 ^ suc j),
      ones_step x,
      more_odd x j,
      ap ones (more-half x j),
      set_ones (x / 2) j (sym (bit_high x j) ∙ h),
    )

-- ---- cleared

pub clear_le : (x j : ℕ) → bit_of x j ≡ true → 2 ^ j ≤ x
clear_le x zero h = omega (arith, low_set x h)
clear_le x (suc j) h = omega (arith, pow-succ' 2 j, clear_le (x / 2) j (sym (bit_high x j) ∙ h))

pub clear_here : (x j : ℕ) → bit_of x j ≡ true → bit_of (x - 2 ^ j) j ≡ false
clear_here x zero h = bit_low (x - 1) ∙ ne_eqb ((x - 1) % 2) 1 (omega (arith, low_set x h))
clear_here x (suc j) h =
    let e : (x - 2 ^ suc j) / 2 ≡ x / 2 - 2 ^ j = omega (arith, pow-succ' 2 j) in
    bit_high (x - 2 ^ suc j) j ∙ ap (λ (y : ℕ). bit_of y j) e ∙ clear_here (x / 2) j (sym (bit_high x j) ∙ h)

-- set again, it is the number that it was
pub clear_set : (x j : ℕ) → bit_of x j ≡ true → x - 2 ^ j + 2 ^ j ≡ x
clear_set x j h = omega (arith, clear_le x j h)

pub clear_there : (x j i : ℕ) → bit_of x j ≡ true → i ≢ j → bit_of (x - 2 ^ j) i ≡ bit_of x i
clear_there x j i h n = sym (set_there (x - 2 ^ j) j i (clear_here x j h) n) ∙ ap (λ (y : ℕ). bit_of y i) (clear_set x j h)

pub clear_ones : (x j : ℕ) → bit_of x j ≡ true → suc (ones (x - 2 ^ j)) ≡ ones x
clear_ones x j h = sym (set_ones (x - 2 ^ j) j (clear_here x j h)) ∙ ap ones (clear_set x j h)
