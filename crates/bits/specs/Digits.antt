-- The binary digits of a number, counted from 0, by division and remainder; and the number that given digits make. A number of n digits
-- is what its digits make, so two such numbers with the same digits are the same. Assumes nothing.
use Rattle.std.specs.Prelude.{◌≡◌, refl, Bool, true, false, ℕ, zero, suc, ◌+◌, ◌*◌, ◌/◌, ◌%◌, ◌^◌, ◌≤◌, ◌<◌, eqb}
use Rattle.std.proofs.Common.{sym, ap, ◌∙◌, lt_of_lt_of_le, div-one, arith, pow_mono, eq-eqb, ne_eqb, eqb-true}
use Rattle.std.proofs.Math.Nat.{pow-succ', div-div-eq-div-mul, div-eq_of_lt}
use Rattle.std.proofs.lemmas.Bool.{eqb-false}
use Rattle.lists.specs.Bools.{bit, bit_most, by_cases}

-- digit j of x is set
unfoldable pub bit_of : ℕ → ℕ → Bool
bit_of x j = eqb (x / 2 ^ j % 2) 1

-- the lowest digit, and the digits above it
pub bit_low : (x : ℕ) → bit_of x 0 ≡ eqb (x % 2) 1
unfolding bit_of
bit_low x = ap (λ (y : ℕ). eqb (y % 2) 1) (div-one x)

pub bit_high : (x j : ℕ) → bit_of x (suc j) ≡ bit_of (x / 2) j
unfolding bit_of
bit_high x j =
    ap (λ (y : ℕ). eqb (y % 2) 1) (ap (λ (y : ℕ). x / y) (pow-succ' 2 j) ∙ sym (div-div-eq-div-mul x 2 (2 ^ j)))

pub low_set : (x : ℕ) → bit_of x 0 ≡ true → x % 2 ≡ 1
low_set x h = eqb-true (x % 2) 1 (sym (bit_low x) ∙ h)

pub low_clear : (x : ℕ) → bit_of x 0 ≡ false → x % 2 ≡ 0
low_clear x h = let n : x % 2 ≡ 1 → ⊥ = eqb-false (x % 2) 1 (sym (bit_low x) ∙ h) in omega (arith, n)

pub bit_value : (x : ℕ) → bit (bit_of x 0) ≡ x % 2
bit_value x = by_cases (bit_of x 0) (λ h. rw h (sym (low_set x h))) (λ h. rw h (sym (low_clear x h)))

-- past a number's length there is none
pub bit_past : (n x j : ℕ) → x < 2 ^ n → n ≤ j → bit_of x j ≡ false
unfolding bit_of
bit_past n x j h k = ap (λ (y : ℕ). eqb (y % 2) 1) (div-eq_of_lt (lt_of_lt_of_le h (pow_mono {i = n} {j = j} k)))

pub zero_bit : (j : ℕ) → bit_of 0 j ≡ false
zero_bit j = bit_past 0 0 j (omega arith) (omega arith)

-- ---- the number of the n digits f 0, .. , f (n − 1)

unfoldable pub word_of : ℕ → (ℕ → Bool) → ℕ
word_of zero f = 0
word_of (suc n) f = bit (f 0) + 2 * word_of n (λ j. f (suc j))

pub word_lt : (n : ℕ) (f : ℕ → Bool) → word_of n f < 2 ^ n
unfolding word_of
word_lt zero f = omega arith
word_lt (suc n) f = omega (arith, bit_most (f 0), word_lt n (λ j. f (suc j)), pow-succ' 2 n)

pub word_same : (n : ℕ) (f h : ℕ → Bool) → ((j : ℕ) → j < n → f j ≡ h j) → word_of n f ≡ word_of n h
unfolding word_of
word_same zero f h e = refl
word_same (suc n) f h e =
    rw (e 0 (omega arith), word_same n (λ j. f (suc j)) (λ j. h (suc j)) (λ j l. e (suc j) (omega arith)))

half : (b : Bool) (w : ℕ) → (bit b + 2 * w) / 2 ≡ w
half true w = omega arith
half false w = omega arith

odd : (b : Bool) (w : ℕ) → eqb ((bit b + 2 * w) % 2) 1 ≡ b
odd true w = eq-eqb ((1 + 2 * w) % 2) 1 (omega arith)
odd false w = ne_eqb ((0 + 2 * w) % 2) 1 (omega arith)

-- its digits are those given
pub word-bit : (n : ℕ) (f : ℕ → Bool) (j : ℕ) → j < n → bit_of (word_of n f) j ≡ f j
unfolding word_of
word-bit zero f j h = absurd (let z : suc 0 ≤ 0 = omega arith in omega arith)
word-bit (suc n) f zero h = bit_low (bit (f 0) + 2 * word_of n (λ j. f (suc j))) ∙ odd (f 0) (word_of n (λ j. f (suc j)))
word-bit (suc n) f (suc j) h =
    bit_high (bit (f 0) + 2 * word_of n (λ i. f (suc i))) j
    ∙ ap (λ (y : ℕ). bit_of y j) (half (f 0) (word_of n (λ i. f (suc i))))
    ∙ word-bit n (λ i. f (suc i)) j (omega arith)

-- A NUMBER OF n DIGITS IS WHAT ITS DIGITS MAKE
pub bit_word : (n x : ℕ) → x < 2 ^ n → word_of n (bit_of x) ≡ x
unfolding word_of
bit_word zero x h = omega arith
bit_word (suc n) x h =
    omega (
      arith,
      bit_value x,
      word_same n (λ j. bit_of x (suc j)) (bit_of (x / 2)) (λ j l. bit_high x j),
      bit_word n (x / 2) (omega (arith, pow-succ' 2 n)),
    )

pub bit_ext : (n x y : ℕ) → x < 2 ^ n → y < 2 ^ n → ((j : ℕ) → j < n → bit_of x j ≡ bit_of y j) → x ≡ y
bit_ext n x y hx hy e = sym (bit_word n x hx) ∙ word_same n (bit_of x) (bit_of y) e ∙ bit_word n y hy

-- a number whose digits from n on are clear has n digits
pub low_lt : (N n x : ℕ) → x < 2 ^ N → ((j : ℕ) → n ≤ j → bit_of x j ≡ false) → x < 2 ^ n
low_lt N zero x h c =
    let e : x ≡ 0 = bit_ext N x 0 h (omega (arith, h)) (λ j l. c j (omega arith) ∙ sym (zero_bit j)) in omega arith
low_lt N (suc n) x h c =
    omega (arith, pow-succ' 2 n, low_lt N n (x / 2) (omega arith) (λ j l. sym (bit_high x j) ∙ c (suc j) (omega arith)))
