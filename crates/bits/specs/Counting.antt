-- How many of the numbers 1 to m pass a test, counted from the top, from the bottom and in parts; and a number's set digits so counted.
-- Assumes nothing.
use Rattle.std.specs.Prelude.{◌≡◌, refl, Bool, false, [], ℕ, zero, suc, ◌+◌, ◌-◌, ◌/◌, ◌^◌, ◌≤◌, ◌<◌, length}
use Rattle.std.proofs.Common.{sym, ap, ◌∙◌, add-zero, add-suc, arith}
use Rattle.std.proofs.Math.Nat.{pow-succ'}
use Rattle.std.specs.Int.Count.{ones, ones_step}
use Rattle.std.proofs.lemmas.Nat.{ones-le}
use Rattle.lists.specs.Bools.{bit}
use Rattle.lists.specs.Select.{select, select_cong}
use Rattle.lists.specs.Numbers.{up_to, in_up_to}
use Rattle.lists.specs.Weights.{keep-length}
use Rattle.bits.specs.Digits.{bit_of, bit_high, bit_value}

-- the k of 1 to m with f k
abbrev pub count : ℕ → (ℕ → Bool) → ℕ
count m f = length (select f (up_to m))

pub count-top : (m : ℕ) (f : ℕ → Bool) → count (suc m) f ≡ bit (f (suc m)) + count m f
unfolding select up_to
count-top m f = keep-length (f (suc m)) (suc m) (select f (up_to m))

pub count_low : (m : ℕ) (f : ℕ → Bool) → count (suc m) f ≡ bit (f 1) + count m (λ k. f (suc k))
unfolding select up_to
count_low zero f = keep-length (f 1) 1 []
count_low (suc m) f =
    omega (arith, count-top (suc m) f, count-top m (λ k. f (suc k)), count_low m f)

pub count_same : (m : ℕ) (f h : ℕ → Bool) → ((k : ℕ) → 1 ≤ k → k ≤ m → f k ≡ h k) → count m f ≡ count m h
count_same m f h e = ap length (select_cong f h (up_to m) (λ k i. e k (in_up_to m k i).0 (in_up_to m k i).1))

pub count_none : (m : ℕ) (f : ℕ → Bool) → ((k : ℕ) → 1 ≤ k → k ≤ m → f k ≡ false) → count m f ≡ 0
unfolding select up_to
count_none zero f h = refl
count_none (suc m) f h = rw (h (suc m) (omega arith) (omega arith)) (count_none m f (λ k l u. h k l (omega arith)))

pub count_parts : (a b : ℕ) (f : ℕ → Bool) → count (a + b) f ≡ count a f + count b (λ k. f (a + k))
unfolding select up_to
count_parts a zero f = rw (add-zero a) (omega arith)
count_parts a (suc b) f =
    ap (λ (n : ℕ). count n f) (add-suc a b)
    ∙ count-top (a + b) f
    ∙ omega (
      arith,
      ap (λ (n : ℕ). bit (f n)) (add-suc a b),
      count-top b (λ k. f (a + k)),
      count_parts a b f,
    )

-- what fails past m is counted up to m
pub count_past : (m n : ℕ) (f : ℕ → Bool) → m ≤ n → ((k : ℕ) → m < k → f k ≡ false) → count n f ≡ count m f
count_past m n f l c =
    let e : m + (n - m) ≡ n = omega arith in
    ap (λ (x : ℕ). count x f) (sym e)
    ∙ count_parts m (n - m) f
    ∙ omega (arith, count_none (n - m) (λ k. f (m + k)) (λ k i j. c (m + k) (omega arith)))

-- a number's set digits
pub ones_count : (n x : ℕ) → x < 2 ^ n → ones x ≡ count n (λ k. bit_of x (k - 1))
unfolding select up_to
ones_count zero x h = omega (arith, ones-le 0 x h)
ones_count (suc n) x h =
    omega (
      arith,
      ones_step x,
      ones_count n (x / 2) (omega (arith, pow-succ' 2 n)),
      bit_value x,
      count_low n (λ k. bit_of x (k - 1)),
      count_same n (λ k. bit_of x (suc k - 1)) (λ k. bit_of (x / 2) (k - 1)) (λ k l u. shifted k l),
    )
  where
    shifted : (k : ℕ) → 1 ≤ k → bit_of x (suc k - 1) ≡ bit_of (x / 2) (k - 1)
    shifted k l = let e : suc k - 1 ≡ suc (k - 1) = omega arith in ap (bit_of x) e ∙ bit_high x (k - 1)
