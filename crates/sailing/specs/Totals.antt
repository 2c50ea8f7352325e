-- The times of a sailing, place by place; their total, which is the edges' costs and the delays; and how large these get. Assumes nothing.
use Rattle.std.specs.Prelude.{◌≡◌, length, get_or, take, ℤ, pos, ◌+ℤ◌}
use Rattle.std.proofs.Math.Path.{refl, sym, ap}
use Rattle.std.proofs.Common.{◌∙◌, inl, inr, arith, mod-lt, add-one, take-suc, ext_get_or}
use mathlib.Core.List.{List, [], ◌∷◌, ◌++◌}
use Prim.Native.Nat.{ℕ, zero, suc, ◌+◌, ◌*◌, ◌%◌, ◌/◌, ◌<◌}
use Rattle.std.proofs.Math.IntN.{+ℤ_assoc, +ℤ_comm}
use Rattle.lists.specs.Members.{◌∈◌}
use Rattle.integers.specs.Parts.{up_most, dn_most, add-up, add-dn}
use Rattle.integers.specs.Differences.{sub_is}
use Rattle.integers.specs.Range.{InRange}
use Rattle.integers.specs.Sums.{sum_z, left_comm}
use Rattle.sailing.specs.Draws.{next, after, delay}
use Rattle.sailing.specs.Times.{times_from, delays_from, total}

-- a leg at the front
pub after_next : (k s : ℕ) → after k (next s) ≡ after (suc k) s
unfolding after
after_next zero s = refl
after_next (suc k) s = ap next (after_next k s)

module _ (cost : ℕ → ℤ) (e : ℕ) where
  pub times-size : (s : ℕ) (ks : List ℕ) → length (times_from cost e s ks) ≡ length ks
  unfolding times_from
  times-size s [] = refl
  times-size s (k ∷ ks) = ap suc (times-size (next s) ks)

  -- at place i, counted from 0, by the state after i + 1 legs
  pub time_at : (s : ℕ) (ks : List ℕ) (i : ℕ) → i < length ks
      → get_or (times_from cost e s ks) i (pos 0) ≡ cost (get_or ks i 0) +ℤ delay e (after (suc i) s)
  unfolding times_from after
  time_at s [] i h = absurd (omega arith)
  time_at s (k ∷ ks) zero h = refl
  time_at s (k ∷ ks) (suc i) h =
      time_at (next s) ks i (omega arith) ∙ ap (λ (x : ℕ). cost (get_or ks i 0) +ℤ delay e x) (after_next (suc i) s)

  -- THE TOTAL IS THE COSTS' SUM AND THE DELAYS' SUM
  pub total_is : (s : ℕ) (ks : List ℕ) → total (times_from cost e s ks) ≡ sum_z cost ks +ℤ total (delays_from e s (length ks))
  unfolding times_from delays_from total sum_z
  total_is s [] = refl
  total_is s (k ∷ ks) =
      ap (λ (z : ℤ). (cost k +ℤ delay e (next s)) +ℤ z) (total_is (next s) ks)
      ∙ +ℤ_assoc (cost k) (delay e (next s)) _
      ∙ ap (λ (z : ℤ). cost k +ℤ z) (left_comm (delay e (next s)) (sum_z cost ks) (total (delays_from e (next s) (length ks))))
      ∙ sym (+ℤ_assoc (cost k) (sum_z cost ks) _)

-- a list that has each leg's time at its place
pub times_are : (cost : ℕ → ℤ) (e s : ℕ) (ks : List ℕ) (zs : List ℤ) → length zs ≡ length ks
    → ((i : ℕ) → i < length ks → get_or zs i (pos 0) ≡ cost (get_or ks i 0) +ℤ delay e (after (suc i) s)) → zs ≡ times_from cost e s ks
times_are cost e s ks zs size h =
    ext_get_or (pos 0) zs (times_from cost e s ks) (size ∙ sym (times-size cost e s ks))
    (λ i l. h i (omega (arith, size)) ∙ sym (time_at cost e s ks i (omega (arith, size))))

-- ---- one time more

total_end : (zs : List ℤ) (z : ℤ) → total (zs ++ z ∷ []) ≡ z +ℤ total zs
unfolding total
total_end [] z = refl
total_end (y ∷ zs) z = ap (λ (x : ℤ). y +ℤ x) (total_end zs z) ∙ left_comm y z (total zs)

pub total-place : (zs : List ℤ) (i : ℕ) → i < length zs → total (take (i + 1) zs) ≡ total (take i zs) +ℤ get_or zs i (pos 0)
total-place zs i h =
    rw (add-one, take-suc zs i (pos 0)) (total_end (take i zs) (get_or zs i (pos 0)) ∙ +ℤ_comm (get_or zs i (pos 0)) (total (take i zs)))

-- ---- ranges

-- a delay is −e to e
pub delay_range : (e s : ℕ) → InRange e (delay e s)
unfolding delay
delay_range e s =
    let r : ℕ = s / 65536 % (2 * e + 1) in
    let small : r < 2 * e + 1 = mod-lt (s / 65536) (omega arith) in
    let d = sub_is r e in
    record { high = up_most (delay e s) e (omega (arith, small, d)); low = dn_most (delay e s) e (omega (arith, small, d)) }

pub add_range : (p q : ℕ) (x y : ℤ) → InRange p x → InRange q y → InRange (p + q) (x +ℤ y)
add_range p q x y h k = record {
  high = omega (arith, add-up x y, h.high, k.high);
  low = omega (arith, add-dn x y, h.low, k.low);
}
