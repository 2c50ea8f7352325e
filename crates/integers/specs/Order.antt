-- The order of the integers, by way of their parts. Assumes nothing.
use Rattle.std.specs.Prelude.{◌≡◌, ◌⊎◌, true, false, suc, ◌+◌, ◌≤◌, ℤ, ◌≤ℤ◌, ◌<ℤ◌}
use Rattle.std.proofs.Common.{inl, inr, arith}
use Rattle.std.proofs.Math.Decide.{dec_le}
use Rattle.std.specs.Int.Signed.{lt_z}
use Rattle.integers.specs.Parts.{up, dn, eq_of_parts, le_parts, parts_le, lt_parts, parts_lt, lt_z_true, lt_z_false}

pub le_trans : (x y z : ℤ) → x ≤ℤ y → y ≤ℤ z → x ≤ℤ z
le_trans x y z h k = parts_le x z (omega (arith, le_parts x y h, le_parts y z k))

pub le_antisym : (x y : ℤ) → x ≤ℤ y → y ≤ℤ x → x ≡ y
le_antisym x y h k = eq_of_parts x y (omega (arith, le_parts x y h, le_parts y x k))

pub lt-le : (x y : ℤ) → x <ℤ y → x ≤ℤ y
lt-le x y h = parts_le x y (omega (arith, lt_parts x y h))

pub le_lt_clash : (x y : ℤ) → x ≤ℤ y → y <ℤ x → ⊥
le_lt_clash x y h k = let z : suc 0 ≤ 0 = omega (arith, le_parts x y h, lt_parts y x k) in omega arith

pub le_lt_trans : (x y z : ℤ) → x ≤ℤ y → y <ℤ z → x <ℤ z
le_lt_trans x y z h k = parts_lt x z (omega (arith, le_parts x y h, lt_parts y z k))

pub le-or-lt : (x y : ℤ) → (x ≤ℤ y) ⊎ (y <ℤ x)
le-or-lt x y = go (dec_le (up x + dn y) (up y + dn x))
  where
    go : Dec (up x + dn y ≤ up y + dn x) → (x ≤ℤ y) ⊎ (y <ℤ x)
    go (yes h) = inl (parts_le x y h)
    go (no h) = inr (parts_lt y x (omega arith))

-- a test and what it decides
pub test_lt : (x y : ℤ) → lt_z x y ≡ true → x <ℤ y
test_lt x y h = parts_lt x y (lt_z_true x y h)

pub test_not_lt : (x y : ℤ) → lt_z x y ≡ false → y ≤ℤ x
test_not_lt x y h = parts_le y x (lt_z_false x y h)
