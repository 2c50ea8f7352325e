-- How many of the first k places a test holds at, as a loop counts them, and what it says that there are none. Assumes nothing.
use Rattle.std.specs.Prelude.{◌≡◌, Bool, true, eqb}
use Rattle.std.proofs.Math.Path.{refl}
use Rattle.std.proofs.Common.{ap, ◌∙◌, eq-eqb, ne_eqb}
use Rattle.std.proofs.Math.Bool.{false}
use Prim.Native.Nat.{ℕ, zero, suc, ◌+◌, ◌<◌, ◌≤◌}
use native.Mathlib.Omega.{arith}
use Rattle.std.proofs.Math.Numerals.{add-one}
use Rattle.std.proofs.Math.Decide.{ℕ_discrete}
use Rattle.lists.specs.Bools.{bit, bit_most, Says}

unfoldable pub hits : (ℕ → Bool) → ℕ → ℕ
hits f zero = 0
hits f (suc k) = hits f k + bit (f k)

-- the test holds at none of the first k places
abbrev pub Nowhere : (ℕ → Bool) → ℕ → Type 0
Nowhere f k = (j : ℕ) → j < k → f j ≡ false

bit_none : (b : Bool) → bit b ≡ 0 → b ≡ false
bit_none true e = absurd (omega arith)
bit_none false e = refl

module _ (f : ℕ → Bool) where
  pub hits_none : 0 ≡ hits f 0
  unfolding hits
  hits_none = refl

  pub hits_next : (k n r : ℕ) → n ≡ hits f k → r ≡ bit (f k) → n + r ≡ hits f (k + 1)
  unfolding hits
  hits_next k n r e h = rw add-one (omega (arith, e, h))

  hits_most : (k : ℕ) → hits f k ≤ k
  unfolding hits
  hits_most zero = omega arith
  hits_most (suc k) = omega (arith, hits_most k, bit_most (f k))

  -- the count stays small
  pub next_most : (k n r : ℕ) → n ≡ hits f k → r ≡ bit (f k) → n + r ≤ k + 1
  next_most k n r e h = omega (arith, hits_next k n r e h, hits_most (k + 1))

  none_nowhere : (k : ℕ) → hits f k ≡ 0 → Nowhere f k
  unfolding hits
  none_nowhere zero e j l = absurd (omega arith)
  none_nowhere (suc k) e j l = go (ℕ_discrete j k) (none_nowhere k (omega arith))
    where
      go : Dec (j ≡ k) → Nowhere f k → f j ≡ false
      go (yes q) below = rw q (bit_none (f k) (omega arith))
      go (no q) below = below j (omega arith)

  nowhere_none : (k : ℕ) → Nowhere f k → hits f k ≡ 0
  unfolding hits
  nowhere_none zero h = refl
  nowhere_none (suc k) h = rw (h k (omega arith), nowhere_none k (λ j l. h j (omega arith)))

  -- what the test says that a loop over m places ends with
  pub says_nowhere : (k m n : ℕ) → k ≡ m → n ≡ hits f k → Says (eqb n 0) (Nowhere f m)
  says_nowhere k m n q e = go (ℕ_discrete n 0)
    where
      all : n ≡ hits f m
      all = e ∙ ap (hits f) q

      go : Dec (n ≡ 0) → Says (eqb n 0) (Nowhere f m)
      go (yes z) = rw (eq-eqb n 0 z) (none_nowhere m (omega (arith, all)))
      go (no z) = rw (ne_eqb n 0 z) (λ h. z (all ∙ nowhere_none m h))
