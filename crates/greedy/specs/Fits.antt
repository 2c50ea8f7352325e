-- Every number that code makes of costs, multipliers, ceilings and a denominator fits its word, and 'there is none' is more than it is compared
-- with, for every denominator. These follow from the limits; code whose sums and keys must fit cites them. Assumes nothing.
use Rattle.std.specs.Prelude.{ℕ, ◌+◌, ◌*◌, ◌<◌, ◌≤◌, ℤ}
use Rattle.std.proofs.Common.{arith, mul-le-mul_right}
use Rattle.integers.specs.Range.{InRange}
use Rattle.integers.specs.Multiples.{◌times◌, times_range}
use Rattle.graph.specs.Limits.{max_vertices, max_edges, max_cost, max_multiplier, max_ceiling, max_denominator}
use Rattle.greedy.specs.Keys.{far_charge, far_keys}
use Rattle.greedy.specs.Charged.{max_scaled, max_scaled_ceiling, max_charge, high_bound, low_bound, max_slack, no_charge}

-- words of 64 bits, unsigned and signed
abbrev word : ℕ
word = 18446744073709551616

abbrev pub signed_word : ℕ
signed_word = 9223372036854775808

-- q times a cost and q times a ceiling, for every q
module _ (q : ℕ) (few : q ≤ max_denominator) (z : ℤ) where
  pub scaled_range : InRange max_cost z → InRange max_scaled (q times z)
  scaled_range r =
      let s = times_range q max_cost z r in
      record { high = omega (arith, s.high, mul-le-mul_right max_cost few); low = omega (arith, s.low, mul-le-mul_right max_cost few) }

  pub scaled_ceiling_range : InRange max_ceiling z → InRange max_scaled_ceiling (q times z)
  scaled_ceiling_range r =
      let s = times_range q max_ceiling z r in
      record { high = omega (arith, s.high, mul-le-mul_right max_ceiling few); low = omega (arith, s.low, mul-le-mul_right max_ceiling few) }

pub scaled_ceiling_fits : max_scaled_ceiling < signed_word
scaled_ceiling_fits = omega arith

-- a cost so multiplied, moved up by its limit, is still a signed number of 64 bits; a multiplier one of 32
pub raised_cost_fits : 2 * max_scaled < signed_word
raised_cost_fits = omega arith

pub raised_fits : 2 * max_multiplier < 2147483648
raised_fits = omega arith

-- all multipliers so moved, and one more
pub raised_sum_fits : (sum x : ℕ) → sum ≤ 2 * max_multiplier * max_vertices → x ≤ 2 * max_multiplier → sum + x < word
raised_sum_fits sum x h l = omega arith

-- a charge and the edge's place in one number: it is below the keys of the edges away from vertex 1, and these fit too
pub near-below : (c k : ℕ) → c ≤ max_charge → k < 256 → c * 256 + k < far_keys
near-below c k h l = omega arith

pub parted_fits : (p c k : ℕ) → p ≤ far_charge → c ≤ max_charge → k < 256 → (p + c) * 256 + k < word
parted_fits p c k g h l = omega arith

-- n charges and one more: as many as there are edges, and the two at vertex 1 besides
pub sum_fits : (sum c n : ℕ) → sum ≤ max_charge * n → c ≤ max_charge → n ≤ max_edges + 2 → sum + c < word
sum_fits sum c n h l k = omega arith

-- what a bound is the difference of
pub high_fits : high_bound < signed_word
high_fits = omega arith

pub low_fits : low_bound < signed_word
low_fits = omega arith

-- how far a bound lies below a ceiling
pub slack_fits : max_slack < signed_word
slack_fits = omega arith

-- NO REPLACEMENT is dearer than any charge, even by the slack
pub none_exceeds : (c slack : ℕ) → c ≤ max_charge → slack ≤ max_slack → c + slack < no_charge
none_exceeds c slack h l = omega arith
