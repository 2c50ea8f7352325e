-- Signed machine words. A signed local is held as its bits, a natural number: a number that fits is read back as it was.
-- Assumes nothing.
use Rattle.std.specs.Prelude.{◌≡◌, ℕ, ◌<◌, ℤ, pos}
use Rattle.std.specs.Int.Signed.{mag}
use Rattle.std.proofs.lemmas.Int.{to_z_pos}
use Rattle.std.proofs.Common.{to_z-of_z, to_z, of_z}
use Rattle.std.specs.Int.{w32, w64}

pub back64 : (z : ℤ) → mag z < 9223372036854775808 → to_z w64 (of_z w64 z) ≡ z
back64 z h = to_z-of_z {w = w64} (record { sfits = h })

pub back32 : (z : ℤ) → mag z < 2147483648 → to_z w32 (of_z w32 z) ≡ z
back32 z h = to_z-of_z {w = w32} (record { sfits = h })

-- an unsigned number below half the range, read as signed
pub low64 : (n : ℕ) → n < 9223372036854775808 → to_z w64 n ≡ pos n
low64 n h = to_z_pos w64 n h
