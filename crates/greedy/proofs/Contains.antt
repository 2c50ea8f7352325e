-- What `contains` asks at a range with both ends, as the definitions ask it: by the order of numbers it is `◌≤◌` at each end.
use Rattle.std.specs.Prelude.{◌≡◌, ◌&&◌, ℕ, ◌<◌, ◌≤◌, leb, ltb, ℤ, pos, neg_ℤ}
use Rattle.std.proofs.Common.{arith}
use Rattle.std.specs.Ordering.{is_le, int_cmp, nat_cmp}
use Rattle.std.specs.Int.Signed.{lt_z, le_z}
use Rattle.std.proofs.Math.Decide.{dec_le}
use Rattle.std.proofs.Common.{eq-eqb, ne_eqb}
use Rattle.std.proofs.lemmas.Bool.{le-leb, lt-leb, le-ltb, ltb-false}
use Rattle.lists.specs.Bools.{by_cases}
use Rattle.integers.specs.Parts.{lt_z_true, lt_z_no_le_z, no_lt_z_le_z}
use Rattle.integers.specs.Range.{within}

int_le : (x y : ℤ) → is_le (int_cmp x y) ≡ le_z x y
int_le x y =
    by_cases (lt_z y x)
    (λ t. rw (lt_z_no_le_z y x t, t) (by_cases (lt_z x y) (λ e. absurd (omega (arith, lt_z_true x y e, lt_z_true y x t))) (λ e. rw e)))
    (λ t. rw (no_lt_z_le_z y x t, t) (by_cases (lt_z x y) (λ e. rw e) (λ e. rw e)))

pub within_contains : (limit : ℕ) (z : ℤ)
    → (is_le (int_cmp (neg_ℤ (pos limit)) z) && is_le (int_cmp z (pos limit))) ≡ within limit z
unfolding within
within_contains limit z = rw (int_le (neg_ℤ (pos limit)) z, int_le z (pos limit))

nat_le : (m n : ℕ) → is_le (nat_cmp m n) ≡ leb m n
nat_le m n = go (dec_le m n)
  where
    go : Dec (m ≤ n) → is_le (nat_cmp m n) ≡ leb m n
    go (yes h) = rw (le-leb m n h) (by_cases (ltb m n) (λ e. rw e) (λ e. let q : m ≡ n = omega (arith, ltb-false m n e) in rw (e, eq-eqb m n q)))
    go (no h) = let q : n < m = omega arith in rw (lt-leb m n q, le-ltb m n (omega arith), ne_eqb m n (λ e. omega arith))

pub counted_contains : (limit n : ℕ) → (is_le (nat_cmp 1 n) && is_le (nat_cmp n limit)) ≡ (leb 1 n && leb n limit)
counted_contains limit n = rw (nat_le 1 n, nat_le n limit)
