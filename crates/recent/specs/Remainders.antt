-- Numbers fewer than w apart have different remainders by w, and of the last w numbers below c one has each remainder. By these two a ring
-- of w places holds the last w of a list, each once. Assumes nothing.
use Rattle.std.specs.Prelude.{◌≡◌, ◌≢◌, ℕ, zero, suc, ◌+◌, ◌-◌, ◌*◌, ◌%◌, ◌/◌, ◌<◌, ◌≤◌, cond, ltb}
use Rattle.std.proofs.Common.{sym, ap, ◌∙◌, arith, mod-eq_of_lt, mul-le-mul_left, mul-suc, ltb-true, ltb-false}
use Rattle.std.proofs.Math.Decide.{ℕ_discrete, dec_le}
use Rattle.std.proofs.Math.Nat.{add-mod_right, div-add-mod, mod-add-mod, mod-lt, mod_self}
use Rattle.lists.specs.Bools.{by_cases}

-- two multiples of w that are less than w apart are one
one_multiple : (w p q d : ℕ) → 0 < d → d < w → w * p ≡ w * q + d → ⊥
one_multiple w p q d h k e = go (dec_le p q)
  where
    go : Dec (p ≤ q) → ⊥
    go (yes l) = omega (arith, mul-le-mul_left w l)
    go (no l) = let m : w * suc q ≤ w * p = mul-le-mul_left w (omega arith) in omega (arith, m, mul-suc w q)

pub remainders_differ : (w i c : ℕ) → i < c → c < i + w → i % w ≢ c % w
remainders_differ w i c h k e =
    one_multiple w (c / w) (i / w) (c - i) (omega arith) (omega arith) (omega (arith, e, div-add-mod i w, div-add-mod c w))

-- the next remainder, as a place is counted on
pub next_remainder : (w c : ℕ) → 1 ≤ w → cond (ltb (c % w + 1) w) (c % w + 1) 0 ≡ (c + 1) % w
next_remainder w c low =
    by_cases (ltb (c % w + 1) w)
    (λ t. let l : c % w + 1 < w = ltb-true (c % w + 1) w t in
    rw t (sym (mod-eq_of_lt l) ∙ more))
    (λ t. let e : c % w + 1 ≡ w = omega (arith, ltb-false (c % w + 1) w t, mod-lt c low) in
    rw t (sym (mod_self w) ∙ ap (λ (n : ℕ). n % w) (sym e) ∙ more))
  where
    more : (c % w + 1) % w ≡ (c + 1) % w
    more = mod-add-mod c w 1

-- the number among the last w below c that has the remainder j
pub record LastWith (w c j : ℕ) : Type 0 where
  pub at : ℕ
  pub below : at < c
  pub near : c ≤ at + w
  pub place : at % w ≡ j

pub last_with : (w c j : ℕ) → j < c → j < w → LastWith w c j
last_with w zero j h k = absurd (omega arith)
last_with w (suc c) j h k = go (ℕ_discrete j (c % w)) (λ l. last_with w c j l k)
  where
    go : Dec (j ≡ c % w) → (j < c → LastWith w c j) → LastWith w (suc c) j
    go (yes e) below = record { at = c; below = omega arith; near = omega arith; place = sym e }
    go (no e) below = old (below (omega (arith, not_last)))
      where
        not_last : j ≢ c
        not_last z = e (sym (mod-eq_of_lt k) ∙ ap (λ (x : ℕ). x % w) z)

        old : LastWith w c j → LastWith w (suc c) j
        old r = record { at = r.at; below = omega (arith, r.below); near = omega (arith, r.near, nearer); place = r.place }
          where
            nearer : c ≢ r.at + w
            nearer z = e (sym r.place ∙ sym (add-mod_right r.at w) ∙ ap (λ (x : ℕ). x % w) (sym z))
