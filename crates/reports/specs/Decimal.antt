-- Numbers as printed: ASCII digits, no more than the number needs, and '-' before a negative one. Definitions, and the equations that
-- say what `decimal` is without the count f.
use Rattle.std.specs.Prelude.{ℕ, zero, suc, ◌+◌, ◌/◌, ◌%◌, ◌<◌, ◌≤◌, ◌≡◌, refl, cond, List, [], ◌∷◌, ◌++◌, ltb, ℤ, pos, negsuc}
use Rattle.std.proofs.Common.{ap, arith, lt-ltb, le-ltb, ltb-false}
use Rattle.lists.specs.Bools.{by_cases}

-- the digit d, below 10: '0' is 48
abbrev pub digit : ℕ → List ℕ
digit d = (48 + d) ∷ []

-- the digits of n; f only makes the recursion end
unfoldable pub digits_of : ℕ → ℕ → List ℕ
digits_of zero n = digit n
digits_of (suc f) n = cond (ltb n 10) (digit n) (digits_of f (n / 10) ++ digit (n % 10))

unfoldable pub decimal : ℕ → List ℕ
decimal n = digits_of n n

-- '-' is 45
unfoldable pub signed_decimal : ℤ → List ℕ
signed_decimal (pos n) = decimal n
signed_decimal (negsuc n) = 45 ∷ decimal (suc n)

-- every count that is enough gives the same digits
digits_enough : (f g n : ℕ) → n ≤ f → n ≤ g → digits_of f n ≡ digits_of g n
unfolding digits_of
digits_enough zero zero n h k = refl
digits_enough zero (suc g) n h k = rw (lt-ltb n 10 (omega arith))
digits_enough (suc f) zero n h k = rw (lt-ltb n 10 (omega arith))
digits_enough (suc f) (suc g) n h k =
    by_cases (ltb n 10)
    (λ t. rw t)
    (λ t. rw (t, digits_enough f g (n / 10) (omega (arith, ltb-false n 10 t)) (omega (arith, ltb-false n 10 t))))

pub decimal_digit : (n : ℕ) → n < 10 → decimal n ≡ digit n
unfolding decimal digits_of
decimal_digit zero h = refl
decimal_digit (suc n) h = rw (lt-ltb (suc n) 10 h)

pub decimal-more : (n : ℕ) → 10 ≤ n → decimal n ≡ decimal (n / 10) ++ digit (n % 10)
unfolding decimal digits_of
decimal-more zero h = absurd (let z : 10 ≤ 0 = h in omega arith)
decimal-more (suc n) h =
    rw (le-ltb (suc n) 10 h)
    (ap (λ (r : List ℕ). r ++ digit (suc n % 10)) (digits_enough n (suc n / 10) (suc n / 10) (omega arith) (omega arith)))
