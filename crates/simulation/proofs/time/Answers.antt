-- The draw and the spread are small, so that the difference and the sum fit, and are read back as they were.
use Rattle.std.proofs.Common.{ℕ, ◌+◌, ◌*◌, ◌%◌, ◌/◌, ◌<◌, ◌≤◌, ◌≡◌, refl, ◌∙◌, ℤ, pos, ◌+ℤ◌, ◌-ℤ◌, arith, mod-lt, to_z, of_z, w32, w64}
use mir.Facts.{to_z-of_z}
use mir.Val.{SFits}
use Rattle.integers.specs.Parts.{mag_of_parts}
use Rattle.integers.specs.Range.{InRange}
use Rattle.integers.specs.Words.{low64}
use Rattle.graph.specs.Limits.{max_cost}
use Rattle.sailing.specs.Draws.{max_spread, delay}
use Rattle.sailing.specs.Totals.{delay_range, add_range}
use Rattle.simulation.proofs.time.Goals as goal

widened : (x : ℤ) → SFits w32 x → SFits w64 x
widened x h = record { sfits = omega (arith, h.sfits) }

-- a number within a range that a word has
fits : (limit : ℕ) (x : ℤ) → limit < 9223372036854775808 → InRange limit x → SFits w64 x
fits limit x h r = record { sfits = mag_of_parts x _ (omega (arith, r.high, h)) (omega (arith, r.low, h)) }

-- the words' sum is the cost and the delay
sum_is : (cost : ℤ) (e s : ℕ) → SFits w32 cost → InRange max_cost cost → e ≤ max_spread
    → let t : ℤ = to_z w64 (of_z w64 (to_z w64 (of_z w64 cost) +ℤ to_z w64 (of_z w64 (to_z w64 (s / 65536 % (2 * e + 1)) -ℤ to_z w64 e)))) in
    (t ≡ cost +ℤ delay e s) × InRange (max_cost + max_spread) t
unfolding delay
sum_is cost e s narrow range small =
    let drawn : ℕ = s / 65536 % (2 * e + 1) in
    let below : drawn < 2 * e + 1 = mod-lt (s / 65536) (omega arith) in
    let drawn-is : to_z w64 drawn ≡ pos drawn = low64 drawn (omega (arith, below, small)) in
    let spread_is : to_z w64 e ≡ pos e = low64 e (omega (arith, small)) in
    let delayed : InRange max_spread (pos drawn -ℤ pos e) = let r = delay_range e s in
    record { high = omega (arith, r.high, small); low = omega (arith, r.low, small) } in
    let time-small : InRange (max_cost + max_spread) (cost +ℤ (pos drawn -ℤ pos e)) = add_range max_cost max_spread cost _ range delayed in
    rw (
      to_z-of_z (widened cost narrow),
      drawn-is,
      spread_is,
      to_z-of_z (fits max_spread _ (omega arith) delayed),
      to_z-of_z (fits (max_cost + max_spread) _ (omega arith) time-small),
    )
    (refl, time-small)

pub returns : goal.returns
returns c =
    let from_is : c.from.result ≡ c.args.cost = c.from.ensures ∙ to_z-of_z c.ranges.cost in
    rw from_is (sum_is c.args.cost c.args.spread c.args.s c.ranges.cost c.requires.0 c.requires.1)
