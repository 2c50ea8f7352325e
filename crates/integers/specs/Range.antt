-- A range −limit .. limit: the test, what it tells, and holding a number to the range. Assumes nothing.
use Rattle.std.specs.Prelude.{◌≡◌, Bool, true, cond, ◌&&◌, ℕ, ◌≤◌, ℤ, pos, neg_ℤ}
use Rattle.std.proofs.Common.{arith}
use Rattle.std.specs.Int.Signed.{lt_z, le_z}
use Rattle.lists.specs.Bools.{by_cases, and_both}
use Rattle.integers.specs.Parts.{up, dn, neg-up, neg-dn, up_most, dn_most, lt_z_false, le_z_true, le_le_z}

-- −limit ≤ z ≤ limit
unfoldable pub within : ℕ → ℤ → Bool
within limit z = le_z (neg_ℤ (pos limit)) z && le_z z (pos limit)

-- neither part is above the limit
pub record InRange (limit : ℕ) (z : ℤ) : Type 0 where
  pub high : up z ≤ limit
  pub low : dn z ≤ limit

pub within_range : (limit : ℕ) (z : ℤ) → within limit z ≡ true → InRange limit z
unfolding within
within_range limit z h =
    let p = and_both (le_z (neg_ℤ (pos limit)) z) (le_z z (pos limit)) h in
    record {
      high = up_most z limit (omega (arith, le_z_true z (pos limit) p.1));
      low = dn_most z limit (omega (arith, le_z_true (neg_ℤ (pos limit)) z p.0, neg-up (pos limit), neg-dn (pos limit)));
    }

pub range_within : (limit : ℕ) (z : ℤ) → InRange limit z → within limit z ≡ true
unfolding within
range_within limit z r =
    rw (
      le_le_z (neg_ℤ (pos limit)) z (omega (arith, r.low, neg-up (pos limit), neg-dn (pos limit))),
      le_le_z z (pos limit) (omega (arith, r.high)),
    )

-- held to the range
unfoldable pub clamp : ℕ → ℤ → ℤ
clamp limit z = cond (lt_z z (neg_ℤ (pos limit))) (neg_ℤ (pos limit)) (cond (lt_z (pos limit) z) (pos limit) z)

pub clamp_range : (limit : ℕ) (z : ℤ) → InRange limit (clamp limit z)
unfolding clamp
clamp_range limit z =
    by_cases (lt_z z (neg_ℤ (pos limit)))
    (λ t. rw t (record { high = omega (arith, neg-up (pos limit)); low = omega (arith, neg-dn (pos limit)) }))
    (λ t. rw t (by_cases (lt_z (pos limit) z)
    (λ u. rw u (record { high = omega arith; low = omega arith }))
    (λ u. rw u (record {
      high = up_most z limit (omega (arith, lt_z_false (pos limit) z u));
      low = dn_most z limit (omega (arith, lt_z_false z (neg_ℤ (pos limit)) t, neg-up (pos limit), neg-dn (pos limit)));
    }))))
