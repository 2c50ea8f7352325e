-- Differences of integers, by way of their parts: that they are what they should be and how large they get. Assumes nothing.
use Rattle.std.specs.Prelude.{◌≡◌, ℕ, ◌+◌, ◌<◌, ◌≤◌, ℤ, pos, negsuc, ◌-ℤ◌, neg_ℤ}
use Rattle.std.proofs.Common.{arith}
use Rattle.std.specs.Int.Signed.{mag}
use Rattle.integers.specs.Parts.{up, dn, add_parts, add-up, add-dn, neg-up, neg-dn, mag_of_parts, IsDiff}

pub sub_parts : (x y : ℤ) → up (x -ℤ y) + (dn x + up y) ≡ up x + dn y + dn (x -ℤ y)
sub_parts x y = omega (arith, add_parts x (neg_ℤ y), neg-up y, neg-dn y)

pub sub-up : (x y : ℤ) → up (x -ℤ y) ≤ up x + dn y
sub-up x y = omega (arith, add-up x (neg_ℤ y), neg-up y)

pub sub-dn : (x y : ℤ) → dn (x -ℤ y) ≤ dn x + up y
sub-dn x y = omega (arith, add-dn x (neg_ℤ y), neg-dn y)

-- of two natural numbers
pub sub_is : (x y : ℕ) → IsDiff (pos x -ℤ pos y) x y
sub_is x y = omega (arith, sub_parts (pos x) (pos y))

pub sub_mag : (x y H : ℕ) → x < H → y ≤ H → mag (pos x -ℤ pos y) < H
sub_mag x y H h k = mag_of_parts (pos x -ℤ pos y) H (omega (arith, sub-up (pos x) (pos y))) (omega (arith, sub-dn (pos x) (pos y)))

-- a difference is no larger than either number
pub diff_range : (z : ℤ) (x y : ℕ) → IsDiff z x y → (up z ≤ x) × (dn z ≤ y)
diff_range (pos n) x y h = (omega arith, omega arith)
diff_range (negsuc n) x y h = (omega arith, omega arith)
