-- Numbers to bytes and back: what the writer splits the reader joins, and the other way round. Assumes nothing.
use Rattle.std.specs.Prelude.{ℕ, ◌+◌, ◌-◌, ◌*◌, ◌/◌, ◌%◌, ◌<◌, ◌≡◌, ltb, ℤ, pos, negsuc}
use Rattle.std.proofs.Common.{arith, lt-ltb, le-ltb}
use Rattle.lists.specs.Bools.{by_cases}
use Rattle.integers.specs.Range.{InRange}
use Rattle.graph.specs.Limits.{max_cost}
use Rattle.graph.specs.Fits.{cost_fits}
use Rattle.charts.specs.Chart.{signed_of, bits_of}

pub join2 : (x : ℕ) → x < 65536 → x % 256 + 256 * (x / 256 % 256) ≡ x
join2 x h = omega arith

digits : (w x y z t a b c : ℕ) → x + 256 * a ≡ w → y + 256 * b ≡ a → z + 256 * c ≡ b → t ≡ c
    → x + 256 * y + 65536 * z + 16777216 * t ≡ w
digits w x y z t a b c p q r u = omega arith

pub join4 : (w : ℕ) → w < 4294967296
    → w % 256 + 256 * (w / 256 % 256) + 65536 * (w / 65536 % 256) + 16777216 * (w / 16777216 % 256) ≡ w
join4 w h =
    let a : w / 65536 ≡ w / 256 / 256 = omega arith in
    let b : w / 16777216 ≡ w / 65536 / 256 = omega arith in
    let c : w / 16777216 < 256 = omega arith in
    digits w (w % 256) (w / 256 % 256) (w / 65536 % 256) (w / 16777216 % 256) (w / 256) (w / 65536) (w / 16777216)
    (omega arith) (omega arith) (omega arith) (omega arith)

pub split2 : (x y : ℕ) → x < 256 → y < 256 → ((x + 256 * y) % 256 ≡ x) × ((x + 256 * y) / 256 % 256 ≡ y)
split2 x y h k = (omega arith, omega arith)

pub split4 : (x y z t : ℕ) → x < 256 → y < 256 → z < 256 → t < 256
    → ((x + 256 * y + 65536 * z + 16777216 * t) % 256 ≡ x) × ((x + 256 * y + 65536 * z + 16777216 * t) / 256 % 256 ≡ y)
    × ((x + 256 * y + 65536 * z + 16777216 * t) / 65536 % 256 ≡ z) × ((x + 256 * y + 65536 * z + 16777216 * t) / 16777216 % 256 ≡ t)
split4 x y z t h k l m = (omega arith, omega arith, omega arith, omega arith)

-- two's complement, of a cost
pub signed_bits : (z : ℤ) → InRange max_cost z → (signed_of (bits_of z) ≡ z) × (bits_of z < 4294967296)
unfolding signed_of bits_of
signed_bits (pos n) r = (rw (lt-ltb n 2147483648 (omega (arith, r.high, cost_fits))), omega (arith, r.high, cost_fits))
signed_bits (negsuc n) r =
    let e : 4294967295 - (4294967295 - n) ≡ n = omega (arith, r.low, cost_fits) in
    (rw (le-ltb (4294967295 - n) 2147483648 (omega (arith, r.low, cost_fits)), e), omega arith)

pub bits_signed : (w : ℕ) → w < 4294967296 → bits_of (signed_of w) ≡ w
unfolding signed_of bits_of
bits_signed w h =
    by_cases (ltb w 2147483648) (λ t. rw t)
    (λ t. let e : 4294967295 - (4294967295 - w) ≡ w = omega arith in rw (t, e))
