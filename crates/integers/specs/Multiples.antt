-- A natural number times an integer: its parts, its sums, its order and its range, for every such number. Assumes nothing.
use Rattle.std.specs.Prelude.{◌≡◌, ◌↔◌, List, [], ◌∷◌, ℕ, ◌+◌, ◌*◌, ◌≤◌, ℤ, pos, negsuc, ◌+ℤ◌, ◌*ℤ◌, ◌≤ℤ◌, ◌<ℤ◌}
use Rattle.std.proofs.Common.{sym, ap, ◌∙◌, mul-add, mul-le-mul_left, arith}
use Rattle.std.proofs.Math.Nat.{mul-lt-mul_of_pos_left, le_of_mul-le-mul_left, lt_of_mul-lt-mul_left, eq_of_mul-eq-mul_left}
use Rattle.std.proofs.Math.IntN.{pos-*ℤ-pos, pos-*ℤ-negsuc}
use Rattle.integers.specs.Parts.{up, dn, add_parts, neg-up, neg-dn, eq_of_parts, le_parts, parts_le, lt_parts, parts_lt}
use Rattle.integers.specs.Range.{InRange}
use Rattle.integers.specs.Sums.{sum_z}

infixl 70 ◌times◌
-- q · z
abbrev pub ◌times◌ : ℕ → ℤ → ℤ
q times z = pos q *ℤ z

pub times-up : (q : ℕ) (z : ℤ) → up (q times z) ≡ q * up z
times-up q (pos n) = ap up (pos-*ℤ-pos q n)
times-up q (negsuc n) = ap up (pos-*ℤ-negsuc q n) ∙ neg-up (pos (q * _)) ∙ omega arith

pub times-dn : (q : ℕ) (z : ℤ) → dn (q times z) ≡ q * dn z
times-dn q (pos n) = ap dn (pos-*ℤ-pos q n) ∙ omega arith
times-dn q (negsuc n) = ap dn (pos-*ℤ-negsuc q n) ∙ neg-dn (pos (q * _))

-- ---- sums

pub times-one : (z : ℤ) → 1 times z ≡ z
times-one z = eq_of_parts (1 times z) z (omega (arith, times-up 1 z, times-dn 1 z))

pub times_plus : (q : ℕ) (x y : ℤ) → q times (x +ℤ y) ≡ q times x +ℤ q times y
times_plus q x y =
    eq_of_parts (q times (x +ℤ y)) (q times x +ℤ q times y)
    (omega (arith, times-up q (x +ℤ y), times-dn q (x +ℤ y), times-up q x, times-dn q x, times-up q y, times-dn q y, add_parts (q times x) (q times y), spread))
  where
    spread : q * up (x +ℤ y) + (q * dn x + q * dn y) ≡ q * up x + q * up y + q * dn (x +ℤ y)
    spread =
        omega (
          arith,
          ap (λ (k : ℕ). q * k) (add_parts x y),
          mul-add q (up (x +ℤ y)) (dn x + dn y),
          mul-add q (dn x) (dn y),
          mul-add q (up x + up y) (dn (x +ℤ y)),
          mul-add q (up x) (up y),
        )

-- Σ q · f = q · Σ f
pub sum_times : (q : ℕ) (f : ℕ → ℤ) (xs : List ℕ) → sum_z (λ k. q times f k) xs ≡ q times sum_z f xs
unfolding sum_z
sum_times q f [] = eq_of_parts (pos 0) (q times pos 0) (omega (arith, times-up q (pos 0), times-dn q (pos 0)))
sum_times q f (x ∷ xs) = ap (λ (z : ℤ). q times f x +ℤ z) (sum_times q f xs) ∙ sym (times_plus q (f x) (sum_z f xs))

-- ---- order

crossed : (q : ℕ) (x y : ℤ) → up (q times x) + dn (q times y) ≡ q * (up x + dn y)
crossed q x y = omega (arith, times-up q x, times-dn q y, mul-add q (up x) (dn y))

-- an order of x and y is one of their multiples, also of those by 0
pub times_mono : (q : ℕ) (x y : ℤ) → x ≤ℤ y → q times x ≤ℤ q times y
times_mono q x y h =
    parts_le (q times x) (q times y) (omega (arith, crossed q x y, crossed q y x, mul-le-mul_left q (le_parts x y h)))

module _ (q : ℕ) (some : 1 ≤ q) (x y : ℤ) where
  pub times-le : (q times x ≤ℤ q times y) ↔ (x ≤ℤ y)
  times-le = (
    λ h. parts_le x y
        (le_of_mul-le-mul_left {k = q} (omega (arith, crossed q x y, crossed q y x, le_parts (q times x) (q times y) h)) some),
    times_mono q x y,
  )

  pub times-lt : (q times x <ℤ q times y) ↔ (x <ℤ y)
  times-lt = (
    λ h. parts_lt x y
        (lt_of_mul-lt-mul_left q (omega (arith, crossed q x y, crossed q y x, lt_parts (q times x) (q times y) h))),
    λ h. parts_lt (q times x) (q times y)
        (omega (arith, crossed q x y, crossed q y x, mul-lt-mul_of_pos_left {k = q} (lt_parts x y h) some)),
  )

  pub times_eq : q times x ≡ q times y → x ≡ y
  times_eq h =
      eq_of_parts x y
      (eq_of_mul-eq-mul_left q some (up x + dn y) (up y + dn x) (omega (arith, crossed q x y, crossed q y x, ap up h, ap dn h)))

-- ---- range

pub times_range : (q limit : ℕ) (z : ℤ) → InRange limit z → InRange (q * limit) (q times z)
times_range q limit z r = record {
  high = omega (arith, times-up q z, mul-le-mul_left q r.high);
  low = omega (arith, times-dn q z, mul-le-mul_left q r.low);
}
