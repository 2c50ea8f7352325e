-- The two's complement of the definitions is that of the machine's 32-bit numbers. Assumes nothing.
use Rattle.std.specs.Prelude.{ℕ, ◌≡◌, refl, ltb, ℤ, pos, negsuc}
use Rattle.std.specs.Int.{w32, cast_signed, cast_unsigned}
use Rattle.std.proofs.Common.{ap, arith}
use Rattle.lists.specs.Bools.{by_cases}
use Rattle.charts.specs.Chart.{signed_of, bits_of}

pub signed_word : (w : ℕ) → cast_signed w32 w ≡ signed_of w
unfolding signed_of
signed_word w = by_cases (ltb w 2147483648) (λ t. rw t) (λ t. rw t (ap negsuc (omega arith)))

pub bits_word : (z : ℤ) → cast_unsigned w32 z ≡ bits_of z
unfolding bits_of
bits_word (pos n) = refl
bits_word (negsuc n) = omega arith
