-- The difference of two numbers of 32 bits, which is not negative.
use Rattle.std.proofs.Common.{◌≡◌, refl, ◌⊎◌, ◌+◌, ◌<◌, ◌≤◌, ℕ, ℤ, pos, ◌+ℤ◌, ◌-ℤ◌, inl, inr, true, false, arith}
use lib.IntN.{nat_abs}
use Rattle.std.specs.Int.Signed.{mag}
use Rattle.integers.specs.Parts.{up, dn, add_parts, one_side, abs_parts, mag_of_parts}
use Rattle.integers.specs.Differences.{sub_parts}
use Rattle.integers.specs.Range.{InRange}
use Rattle.integers.specs.Words.{back32}
use Rattle.graph.specs.Limits.{max_multiplier}
use Rattle.lifting.specs.Verdict.{room_of}
use Rattle.lifting.specs.Loops.{room_small}
use Rattle.onetree.proofs.lifts.room.Goals as goal

-- a number that is x less y, where y is no more
plain : (w : ℤ) (x y : ℕ) → up w + y ≡ x + dn w → y ≤ x → (up w + y ≡ x) × (dn w ≡ 0)
plain w x y e h = go (one_side w)
  where
    go : (up w ≡ 0) ⊎ (dn w ≡ 0) → (up w + y ≡ x) × (dn w ≡ 0)
    go (inl z) = (omega (arith, e, h, z), omega (arith, e, h, z))
    go (inr z) = (omega (arith, e, z), z)

module _ (z : ℤ) (r : InRange max_multiplier z) where
  upward : (up (z +ℤ pos max_multiplier) + dn z ≡ up z + max_multiplier) × (dn (z +ℤ pos max_multiplier) ≡ 0)
  upward = plain (z +ℤ pos max_multiplier) (up z + max_multiplier) (dn z) (omega (arith, add_parts z (pos max_multiplier))) (omega (arith, r.low))

  downward : (up (pos max_multiplier -ℤ z) + up z ≡ dn z + max_multiplier) × (dn (pos max_multiplier -ℤ z) ≡ 0)
  downward = plain (pos max_multiplier -ℤ z) (dn z + max_multiplier) (up z) (omega (arith, sub_parts (pos max_multiplier) z)) (omega (arith, r.high))

  falls : (nat_abs (z +ℤ pos max_multiplier) ≡ room_of true z) × (mag (z +ℤ pos max_multiplier) < 2147483648)
  unfolding room_of
  falls = (
    omega (arith, abs_parts (z +ℤ pos max_multiplier), upward),
    mag_of_parts (z +ℤ pos max_multiplier) _ (omega (arith, upward, r.high, r.low)) (omega (arith, upward)),
  )

  rises : (nat_abs (pos max_multiplier -ℤ z) ≡ room_of false z) × (mag (pos max_multiplier -ℤ z) < 2147483648)
  unfolding room_of
  rises = (
    omega (arith, abs_parts (pos max_multiplier -ℤ z), downward),
    mag_of_parts (pos max_multiplier -ℤ z) _ (omega (arith, downward, r.high, r.low)) (omega (arith, downward)),
  )

pub returns-then-inside : goal.returns-then-inside
returns-then-inside c =
    let z = c.args.multiplier in
    let f = falls z c.requires in
    rw (back32 z c.ranges.multiplier.sfits, back32 (z +ℤ pos max_multiplier) f.1, f.0, c.if-inside.true) (refl, room_small true z c.requires)

pub returns-else-inside : goal.returns-else-inside
returns-else-inside c =
    let z = c.args.multiplier in
    let f = rises z c.requires in
    rw (back32 z c.ranges.multiplier.sfits, back32 (pos max_multiplier -ℤ z) f.1, f.0, c.if-inside.false) (refl, room_small false z c.requires)
