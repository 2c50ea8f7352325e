-- What the kit's operations on words do to digits: `&`, `|`, `!`, the number of trailing zeros, and the forms in which code tests a digit
-- and sets it. Assumes nothing.
use Rattle.std.specs.Prelude.{◌≡◌, refl, ◌≢◌, Bool, true, false, not, ◌&&◌, ◌||◌, ℕ, zero, suc, ◌+◌, ◌-◌, ◌/◌, ◌%◌, ◌^◌, ◌≤◌, ◌<◌, min, max, eqb}
use Rattle.std.proofs.Common.{sym, ap, ap₂, ◌∙◌, arith, pow_pos, eq-eqb, ne_eqb}
use Rattle.std.proofs.Math.Nat.{pow-succ'}
use Rattle.std.proofs.Math.Decide.{ℕ_discrete, dec_le}
use Rattle.std.specs.Int.Bits.{bit_and, bit_or, and_step, or_step, and_self}
use Rattle.std.proofs.lemmas.Nat.{and_le_r, or_disjoint, and_mask, trailing_le}
use Rattle.std.specs.Int.Count.{count_trailing_zeros, under}
use Rattle.lists.specs.Bools.{bit, by_cases, and_no_right}
use Rattle.bits.specs.Digits.{bit_of, bit_value, bit_low, bit_high, low_set, low_clear, zero_bit, bit_ext}
use Rattle.bits.specs.Changes.{set_here, set_there}

-- `(x >> j) & 1` is the digit
pub test_bit : (x j : ℕ) → eqb (bit_and (x / 2 ^ j) 1) 1 ≡ bit_of x j
unfolding bit_of
test_bit x j = ap (λ (y : ℕ). eqb y 1) (and_mask (x / 2 ^ j) 1)

pub read_bit : (x j : ℕ) → bit_and (x / 2 ^ j) 1 ≡ bit (bit_of x j)
unfolding bit_of
read_bit x j = and_mask (x / 2 ^ j) 1 ∙ sym (ap bit (sym (bit_low (x / 2 ^ j))) ∙ bit_value (x / 2 ^ j))

and-half : (a b : ℕ) → bit_and a b / 2 ≡ bit_and (a / 2) (b / 2)
and-half a b = omega (arith, and_step a b)

and_low : (a b : ℕ) → bit_and a b % 2 ≡ min (a % 2) (b % 2)
and_low a b = omega (arith, and_step a b)

pub and-bit : (a b j : ℕ) → bit_of (bit_and a b) j ≡ bit_of a j && bit_of b j
and-bit a b zero =
    by_cases (bit_of a 0)
    (λ x. by_cases (bit_of b 0)
    (λ y. rw (x, y) (bit_low (bit_and a b) ∙ eq-eqb (bit_and a b % 2) 1 (omega (arith, and_low a b, low_set a x, low_set b y))))
    (λ y. rw (x, y) (bit_low (bit_and a b) ∙ ne_eqb (bit_and a b % 2) 1 (omega (arith, and_low a b, low_set a x, low_clear b y)))))
    (λ x. rw x (bit_low (bit_and a b) ∙ ne_eqb (bit_and a b % 2) 1 (omega (arith, and_low a b, low_clear a x))))
and-bit a b (suc j) =
    bit_high (bit_and a b) j
    ∙ ap (λ (y : ℕ). bit_of y j) (and-half a b)
    ∙ and-bit (a / 2) (b / 2) j
    ∙ ap₂ (λ (x y : Bool). x && y) (sym (bit_high a j)) (sym (bit_high b j))

or_low : (a b : ℕ) → bit_or a b % 2 ≡ max (a % 2) (b % 2)
or_low a b = omega (arith, or_step a b)

or-half : (a b : ℕ) → bit_or a b / 2 ≡ bit_or (a / 2) (b / 2)
or-half a b = omega (arith, or_step a b)

pub or-bit : (a b j : ℕ) → bit_of (bit_or a b) j ≡ bit_of a j || bit_of b j
or-bit a b zero =
    by_cases (bit_of a 0)
    (λ x. rw x (bit_low (bit_or a b) ∙ eq-eqb (bit_or a b % 2) 1 (omega (arith, or_low a b, low_set a x))))
    (λ x. by_cases (bit_of b 0)
    (λ y. rw (x, y) (bit_low (bit_or a b) ∙ eq-eqb (bit_or a b % 2) 1 (omega (arith, or_low a b, low_clear a x, low_set b y))))
    (λ y. rw (x, y) (bit_low (bit_or a b) ∙ ne_eqb (bit_or a b % 2) 1 (omega (arith, or_low a b, low_clear a x, low_clear b y)))))
or-bit a b (suc j) =
    bit_high (bit_or a b) j
    ∙ ap (λ (y : ℕ). bit_of y j) (or-half a b)
    ∙ or-bit (a / 2) (b / 2) j
    ∙ ap₂ (λ (x y : Bool). x || y) (sym (bit_high a j)) (sym (bit_high b j))

-- `x | (1 << j)` adds the power of two where the digit is clear
pub set-or : (x j : ℕ) → bit_of x j ≡ false → bit_or x (2 ^ j) ≡ x + 2 ^ j
set-or x j h = or_disjoint x (2 ^ j) apart
  where
    go : (i : ℕ) → Dec (i ≡ j) → bit_of x i && bit_of (2 ^ j) i ≡ false
    go i (yes e) = ap (λ (k : ℕ). bit_of x k && bit_of (2 ^ j) i) e ∙ ap (λ (b : Bool). b && bit_of (2 ^ j) i) h
    go i (no e) =
        let z : 2 ^ j ≡ 0 + 2 ^ j = omega arith in
        and_no_right (bit_of x i) (bit_of (2 ^ j) i)
        (ap (λ (y : ℕ). bit_of y i) z ∙ set_there 0 j i (zero_bit j) e ∙ zero_bit i)

    apart : bit_and x (2 ^ j) ≡ 0
    apart =
        bit_ext (suc j) (bit_and x (2 ^ j)) 0
        (omega (arith, and_le_r x (2 ^ j), pow-succ' 2 j, pow_pos j))
        (omega (arith, pow-succ' 2 j, pow_pos j))
        (λ i l. and-bit x (2 ^ j) i ∙ go i (ℕ_discrete i j) ∙ sym (zero_bit i))

-- the digits of `!x`, for a word of n digits
pub not-bit : (n x j : ℕ) → x < 2 ^ n → j < n → bit_of (2 ^ n - 1 - x) j ≡ not (bit_of x j)
not-bit zero x j h l = absurd (let z : suc 0 ≤ 0 = omega arith in omega arith)
not-bit (suc n) x zero h l =
    by_cases (bit_of x 0)
    (λ b. rw b (bit_low _ ∙ ne_eqb ((2 ^ suc n - 1 - x) % 2) 1 (omega (arith, pow-succ' 2 n, low_set x b))))
    (λ b. rw b (bit_low _ ∙ eq-eqb ((2 ^ suc n - 1 - x) % 2) 1 (omega (arith, pow-succ' 2 n, low_clear x b))))
not-bit (suc n) x (suc j) h l =
    let e : (2 ^ suc n - 1 - x) / 2 ≡ 2 ^ n - 1 - x / 2 = omega (arith, pow-succ' 2 n) in
    bit_high (2 ^ suc n - 1 - x) j
    ∙ ap (λ (y : ℕ). bit_of y j) e
    ∙ not-bit n (x / 2) j (omega (arith, pow-succ' 2 n)) (omega arith)
    ∙ ap not (sym (bit_high x j))

-- below its number of trailing zeros a word's digits are clear, and the digit there is set: the lowest set digit
pub trailing_below : (n x i : ℕ) → i < count_trailing_zeros n x → bit_of x i ≡ false
unfolding count_trailing_zeros
trailing_below zero x i h = absurd (let z : suc 0 ≤ 0 = omega arith in omega arith)
trailing_below (suc n) x i h = go (x % 2) refl i h (λ k l. trailing_below n (x / 2) k l)
  where
    go : (b : ℕ) → x % 2 ≡ b → (k : ℕ) → k < under b (count_trailing_zeros n (x / 2))
        → ((l : ℕ) → l < count_trailing_zeros n (x / 2) → bit_of (x / 2) l ≡ false) → bit_of x k ≡ false
    go zero e zero l below = bit_low x ∙ ne_eqb (x % 2) 1 (omega arith)
    go zero e (suc k) l below = bit_high x k ∙ below k (omega arith)
    go (suc b) e k l below = absurd (let z : suc 0 ≤ 0 = omega arith in omega arith)

pub trailing_here : (n x : ℕ) → count_trailing_zeros n x < n → bit_of x (count_trailing_zeros n x) ≡ true
unfolding count_trailing_zeros
trailing_here zero x h = absurd (let z : suc 0 ≤ 0 = omega arith in omega arith)
trailing_here (suc n) x h = go (x % 2) refl h (λ l. trailing_here n (x / 2) l)
  where
    go : (b : ℕ) → x % 2 ≡ b → under b (count_trailing_zeros n (x / 2)) < suc n
        → (count_trailing_zeros n (x / 2) < n → bit_of (x / 2) (count_trailing_zeros n (x / 2)) ≡ true)
        → bit_of x (under b (count_trailing_zeros n (x / 2))) ≡ true
    go zero e l below = bit_high x (count_trailing_zeros n (x / 2)) ∙ below (omega arith)
    go (suc b) e l below = bit_low x ∙ eq-eqb (x % 2) 1 (omega arith)

-- a word that is not 0 has one
pub trailing_some : (n x : ℕ) → x < 2 ^ n → x ≢ 0 → count_trailing_zeros n x < n
trailing_some n x h some = go (dec_le (suc (count_trailing_zeros n x)) n)
  where
    go : Dec (count_trailing_zeros n x < n) → count_trailing_zeros n x < n
    go (yes l) = l
    go (no l) =
        absurd (some (bit_ext n x 0 h (omega (arith, h)) (λ j b. trailing_below n x j (omega (arith, trailing_le n x)) ∙ sym (zero_bit j))))

-- `x & (x - 1)` takes it off
pub lowest_off : (n x : ℕ) → x < 2 ^ n → 1 ≤ x → bit_and x (x - 1) ≡ x - 2 ^ count_trailing_zeros n x
unfolding count_trailing_zeros
lowest_off zero x h some = absurd (omega arith)
lowest_off (suc n) x h some = go (x % 2) refl (λ l u. lowest_off n (x / 2) l u)
  where
    go : (b : ℕ) → x % 2 ≡ b → (x / 2 < 2 ^ n → 1 ≤ x / 2 → bit_and (x / 2) (x / 2 - 1) ≡ x / 2 - 2 ^ count_trailing_zeros n (x / 2))
        → bit_and x (x - 1) ≡ x - 2 ^ under b (count_trailing_zeros n (x / 2))
    go zero e off =
        let half : (x - 1) / 2 ≡ x / 2 - 1 = omega arith in
        omega (
          arith,
          and_step x (x - 1),
          ap (bit_and (x / 2)) half,
          off (omega (arith, pow-succ' 2 n)) (omega arith),
          pow-succ' 2 (count_trailing_zeros n (x / 2)),
        )
    go (suc b) e off =
        let half : (x - 1) / 2 ≡ x / 2 = omega arith in
        omega (arith, and_step x (x - 1), ap (bit_and (x / 2)) half, and_self (x / 2))

-- ---- a power of two, and the word of all n digits

pub power_here : (j : ℕ) → bit_of (2 ^ j) j ≡ true
power_here j = let z : 2 ^ j ≡ 0 + 2 ^ j = omega arith in ap (λ (y : ℕ). bit_of y j) z ∙ set_here 0 j (zero_bit j)

pub power_there : (j i : ℕ) → i ≢ j → bit_of (2 ^ j) i ≡ false
power_there j i n =
    let z : 2 ^ j ≡ 0 + 2 ^ j = omega arith in ap (λ (y : ℕ). bit_of y i) z ∙ set_there 0 j i (zero_bit j) n ∙ zero_bit i

pub full_bit : (n j : ℕ) → j < n → bit_of (2 ^ n - 1) j ≡ true
full_bit n j l =
    let z : 2 ^ n - 1 ≡ 2 ^ n - 1 - 0 = omega arith in
    ap (λ (y : ℕ). bit_of y j) z ∙ not-bit n 0 j (pow_pos n) l ∙ ap not (zero_bit j)

-- of the word of all n digits, those that x has not
pub others-bit : (n x j : ℕ) → j < n → bit_of (2 ^ n - 1 - bit_and x (2 ^ n - 1)) j ≡ not (bit_of x j)
others-bit n x j l =
    not-bit n (bit_and x (2 ^ n - 1)) j (omega (arith, and_le_r x (2 ^ n - 1), pow_pos n)) l
    ∙ ap not (and-bit x (2 ^ n - 1) j ∙ ap (λ (b : Bool). bit_of x j && b) (full_bit n j l) ∙ and_yes (bit_of x j))
  where
    and_yes : (b : Bool) → b && true ≡ b
    and_yes true = refl
    and_yes false = refl
