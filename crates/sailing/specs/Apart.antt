-- NO TWO STUDENTS ARE EVER IN ONE STATE: each state leads to the next and no two lead to one, so students with different numbers never hold
-- the same state after equally many legs, whatever that number is. Assumes nothing.
use Rattle.std.specs.Prelude.{◌≡◌, ◌≢◌, ℕ, zero, suc, ◌+◌, ◌*◌, ◌-◌, ◌%◌, ◌/◌, ◌<◌, ◌≤◌}
use Rattle.std.proofs.Common.{sym, ap, ◌∙◌, arith, mod-eq_of_lt}
use Rattle.std.proofs.Math.Decide.{dec_le}
use Rattle.std.proofs.Math.Nat.{add-mul-mod_self_left, mul-mod_right, div-add-mod}
use Rattle.sailing.specs.Draws.{max_student, modulus, next, after}

pub next_small : (s : ℕ) → next s < modulus
unfolding next
next_small s = omega arith

pub after_small : (k s : ℕ) → s < modulus → after k s < modulus
unfolding after
after_small zero s h = h
after_small (suc k) s h = next_small (after k s)

-- 4,276,115,653 × 1,664,525 is 1 more than 1,657,219 × the modulus: what the factor makes a multiple of the modulus was one
multiple_of_none : (z w : ℕ) → z < modulus → 1664525 * z ≡ modulus * w → z ≡ 0
multiple_of_none z w h e =
    sym (mod-eq_of_lt h)
    ∙ sym (add-mul-mod_self_left z modulus (1657219 * z))
    ∙ ap (λ (x : ℕ). x % modulus) (undone z w e)
    ∙ mul-mod_right modulus (4276115653 * w)
  where
    undone : (z w : ℕ) → 1664525 * z ≡ modulus * w → z + modulus * (1657219 * z) ≡ modulus * (4276115653 * w)
    undone z w e = omega (arith, e)

ordered_one : (s t : ℕ) → s < modulus → t ≤ s → next s ≡ next t → s ≡ t
unfolding next
ordered_one s t small l e =
    let q : ℕ = (1664525 * s + 1013904223) / modulus in
    let p : ℕ = (1664525 * t + 1013904223) / modulus in
    let divided_s = div-add-mod (1664525 * s + 1013904223) modulus in
    let divided_t = div-add-mod (1664525 * t + 1013904223) modulus in
    omega (arith, l, multiple_of_none (s - t) (q - p) (omega (arith, small)) (omega (arith, l, e, divided_s, divided_t)))

-- no two states lead to one
pub next_one : (s t : ℕ) → s < modulus → t < modulus → next s ≡ next t → s ≡ t
next_one s t hs ht e = go (dec_le t s)
  where
    go : Dec (t ≤ s) → s ≡ t
    go (yes l) = ordered_one s t hs l e
    go (no l) = sym (ordered_one t s ht (omega (arith, l)) (sym e))

pub after_one : (k s t : ℕ) → s < modulus → t < modulus → after k s ≡ after k t → s ≡ t
unfolding after
after_one zero s t hs ht e = e
after_one (suc k) s t hs ht e =
    after_one k s t hs ht (next_one (after k s) (after k t) (after_small k s hs) (after_small k t ht) e)

-- "Students with different numbers never hold the same state after equally many legs": k is any number of them
pub students_apart : (k s t : ℕ) → s ≤ max_student → t ≤ max_student → s ≢ t → after k s ≢ after k t
students_apart k s t hs ht differ e = differ (after_one k s t (omega arith) (omega arith) e)
