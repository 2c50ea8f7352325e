-- What a multiplier gains after a pass: the numbers fit their words, and the array of the next multipliers is the machine's list.
-- Assumes nothing.
use Rattle.std.specs.Prelude.{◌≡◌, refl, Bool, true, false, cond, List, leb, length, set, ℤ, pos, negsuc, ◌+ℤ◌, ◌*ℤ◌, ◌-ℤ◌, neg_ℤ}
use Rattle.std.proofs.Math.Path.{sym, ap}
use Rattle.std.proofs.Common.{◌∙◌, subst, arith, mul-le-mul, add-one, length-set, get_or-set_same, get_or-set_other, SFits}
use Prim.Native.Nat.{ℕ, zero, suc, ◌+◌, ◌*◌, ◌≤◌, ◌<◌}
use Rattle.std.proofs.Math.Decide.{ℕ_discrete}
use Rattle.std.proofs.Math.ListN.{get_or}
use Rattle.std.specs.Int.Signed.{lt_z}
use Rattle.std.proofs.lemmas.Bool.{lt-leb}
use Rattle.std.specs.Int.{w32, int_max, int_min}
use Rattle.lists.specs.Rows.{row, row-size, row_at}
use Rattle.lists.specs.Fill.{fill_is, fit, fit_at}
use Rattle.integers.specs.Parts.{up, dn, mag_of_parts, add-up, add-dn, neg-up, neg-dn}
use Rattle.integers.specs.Range.{InRange, clamp}
use Rattle.graph.specs.Limits.{max_vertices, max_multiplier, max_step}
use Rattle.graph.specs.Network.{Network}
use Rattle.tree_theory.specs.OneTree.{Edges}
use Rattle.tree_theory.specs.Inputs.{multiplier}
use Rattle.tours.specs.Tours.{degree}
use Rattle.machine.specs.Machine.{gained}

-- ---- numbers

-- "step × (g − 2)"
abbrev pub gain_of : ℕ → ℕ → ℤ
gain_of step deg = pos step *ℤ (pos deg -ℤ pos 2)

-- with a degree in a byte
abbrev pub max_gain : ℕ
max_gain = max_step * 255

lift_up : (a : ℕ) (z : ℤ) (b c : ℕ) → a ≤ b → up z ≤ c → up (pos a *ℤ z) ≤ b * c
lift_up a (pos n) b c h k = mul-le-mul h k
lift_up a (negsuc n) b c h k = omega (arith, neg-up (pos (a * suc n)))

lift_dn : (a : ℕ) (z : ℤ) (b c : ℕ) → a ≤ b → dn z ≤ c → dn (pos a *ℤ z) ≤ b * c
lift_dn a (pos n) b c h k = omega arith
lift_dn a (negsuc n) b c h k = let m : a * suc n ≤ b * c = mul-le-mul h k in omega (arith, neg-dn (pos (a * suc n)))

module _ (deg : ℕ) (h : deg < 256) where
  less_two : InRange 255 (pos deg -ℤ pos 2)
  less_two = record { high = omega (arith, add-up (pos deg) (negsuc 1)); low = omega (arith, add-dn (pos deg) (negsuc 1)) }

  pub less_two_fits : SFits w32 (pos deg -ℤ pos 2)
  less_two_fits = record {
    sfits = mag_of_parts (pos deg -ℤ pos 2) 2147483648 (omega (arith, less_two.high)) (omega (arith, less_two.low));
  }

  module _ (step : ℕ) (k : step ≤ max_step) where
    pub gain_range : InRange max_gain (gain_of step deg)
    gain_range = record {
      high = lift_up step (pos deg -ℤ pos 2) max_step 255 k less_two.high;
      low = lift_dn step (pos deg -ℤ pos 2) max_step 255 k less_two.low;
    }

    pub gain_fits : SFits w32 (gain_of step deg)
    gain_fits = record {
      sfits = mag_of_parts (gain_of step deg) 2147483648 (omega (arith, gain_range.high)) (omega (arith, gain_range.low));
    }

pub sum_fits : (x p : ℤ) → InRange max_multiplier x → InRange max_gain p → SFits w32 (x +ℤ p)
sum_fits x p r q = record {
  sfits = mag_of_parts (x +ℤ p) 2147483648 (omega (arith, add-up x p, r.high, q.high)) (omega (arith, add-dn x p, r.low, q.low));
}

-- "is held to its range": std's clamp, as it is told
pub held : (z r : ℤ) → r ≡ int_max (neg_ℤ (pos max_multiplier)) (int_min z (pos max_multiplier)) → r ≡ clamp max_multiplier z
unfolding clamp
held (pos n) r e = e ∙ go (lt_z (pos max_multiplier) (pos n))
  where
    go : (b : Bool) → int_max (neg_ℤ (pos max_multiplier)) (cond b (pos max_multiplier) (pos n)) ≡ cond b (pos max_multiplier) (pos n)
    go true = refl
    go false = refl
held (negsuc n) r e = e

-- ---- the array

-- a multiplier with its gain
abbrev pub gained_by : ℕ → ℕ → ℤ → ℤ
gained_by step deg x = clamp max_multiplier (x +ℤ gain_of step deg)

-- vertices 2 to k have gained, and the others not; vertex v stands at place v − 1, its degree at place v
pub record GainsTo (k step : ℕ) (degrees : List ℕ) (d r : List ℤ) : Type 0 where
  pub size : length r ≡ max_vertices
  pub first : get_or r 0 (pos 0) ≡ get_or d 0 (pos 0)
  pub new : (i : ℕ) → 1 ≤ i → i < k → get_or r i (pos 0) ≡ gained_by step (get_or degrees (i + 1) 0) (get_or d i (pos 0))
  pub rest : (i : ℕ) → k ≤ i → get_or r i (pos 0) ≡ get_or d i (pos 0)

pub gains_none : (step : ℕ) (degrees : List ℕ) (d : List ℤ) → length d ≡ max_vertices → GainsTo 1 step degrees d d
gains_none step degrees d e = record { size = e; first = refl; new = λ i a b. absurd (omega arith); rest = λ i a. refl }

pub gains_more : (k step : ℕ) (degrees : List ℕ) (d r : List ℤ) (v : ℤ) → 1 ≤ k → k < max_vertices
    → v ≡ gained_by step (get_or degrees (k + 1) 0) (get_or d k (pos 0)) → GainsTo k step degrees d r
    → GainsTo (k + 1) step degrees d (set r k v)
gains_more k step degrees d r v low b e h = record {
  size = length-set r k v ∙ h.size;
  first = get_or-set_other r k 0 v (pos 0) (omega arith) ∙ h.first;
  new = λ i a c. new i a c (ℕ_discrete i k);
  rest = λ i a. get_or-set_other r k i v (pos 0) (omega arith) ∙ h.rest i (omega arith);
}
  where
    new : (i : ℕ) → 1 ≤ i → i < k + 1 → Dec (i ≡ k)
        → get_or (set r k v) i (pos 0) ≡ gained_by step (get_or degrees (i + 1) 0) (get_or d i (pos 0))
    new i a c (yes q) = rw q (get_or-set_same r k v (pos 0) (omega (arith, h.size)) ∙ e)
    new i a c (no q) = get_or-set_other r k i v (pos 0) q ∙ h.new i a (omega arith)

pub gains_to : (k n step : ℕ) (degrees : List ℕ) (d r : List ℤ) → k ≡ n → GainsTo k step degrees d r
    → GainsTo n step degrees d r
gains_to k n step degrees d r e h = subst (λ (i : ℕ). GainsTo i step degrees d r) e h

-- the machine's next multipliers
module _ (g : Network) (step : ℕ) (t : Edges) (degrees : List ℕ) (d r : List ℤ) (h : GainsTo g.n step degrees d r)
    (deg : (v : ℕ) → 1 ≤ v → v ≤ g.n → get_or degrees v 0 ≡ degree g t v) where
  fit-multiplier : (i : ℕ) → i < g.n → multiplier (fit g.n (pos 0) d) (suc i) ≡ get_or d i (pos 0)
  unfolding multiplier
  fit-multiplier i b = fit_at g.n (pos 0) d i b

  after : ℕ → ℤ
  after v = cond (leb v 1) (multiplier (fit g.n (pos 0) d) v) (gained_by step (degree g t v) (multiplier (fit g.n (pos 0) d) v))

  -- vertex i + 1
  at : (i : ℕ) → i < g.n → get_or r i (pos 0) ≡ after (suc i)
  unfolding after
  at zero b = h.first ∙ sym (fit-multiplier 0 b)
  at (suc i) b =
      h.new (suc i) (omega arith) b
      ∙ ap (λ (y : ℕ). gained_by step (get_or degrees y 0) (get_or d (suc i) (pos 0))) (add-one (suc i))
      ∙ ap (λ (y : ℕ). gained_by step y (get_or d (suc i) (pos 0))) (deg (suc (suc i)) (omega arith) b)
      ∙ ap (gained_by step (degree g t (suc (suc i)))) (sym (fit-multiplier (suc i) b))
      ∙ rw (lt-leb (suc (suc i)) 1 (omega arith))

  pub gains_is : fit g.n (pos 0) r ≡ gained g step t (fit g.n (pos 0) d)
  unfolding gained fit after
  gains_is = fill_is g.n (λ i. get_or r i (pos 0)) (row g.n after) (pos 0) (row-size g.n after)
      (λ i b. at i b ∙ sym (row_at g.n after i (pos 0) b))
