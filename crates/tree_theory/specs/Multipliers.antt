-- Multipliers that fit, as plain statements; the test `multipliers_fit` decides them. Assumes nothing.
use Rattle.std.specs.Prelude.{◌≡◌, refl, true, false, List, [], ◌∷◌, ℕ, zero, suc, ◌-◌, ◌<◌, ◌≤◌, length, get_or, ℤ, pos}
use Rattle.std.proofs.Common.{◌∙◌, sym, ap, arith}
use Rattle.std.proofs.lemmas.Bool.{false≢true}
use Rattle.lists.specs.Bools.{and_both, and_no_right, by_cases}
use Rattle.lists.specs.All.{every_of}
use Rattle.integers.specs.Parts.{eq_of_parts}
use Rattle.integers.specs.Range.{within, InRange, within_range, range_within}
use Rattle.graph.specs.Limits.{max_multiplier}
use Rattle.tree_theory.specs.Inputs.{multiplier, multipliers_fit}

-- each number of the list is in the multipliers' range
abbrev pub Ranged : List ℤ → Type 0
Ranged d = (k : ℕ) → k < length d → InRange max_multiplier (get_or d k (pos 0))

all_ranged : (d : List ℤ) → every_of (within max_multiplier) d ≡ true → Ranged d
unfolding every_of
all_ranged [] h k l = absurd (let z : suc k ≤ 0 = l in omega arith)
all_ranged (z ∷ d) h zero l = within_range max_multiplier z (and_both (within max_multiplier z) (every_of (within max_multiplier) d) h).0
all_ranged (z ∷ d) h (suc k) l =
    all_ranged d (and_both (within max_multiplier z) (every_of (within max_multiplier) d) h).1 k (omega arith)

pub fit_ranged : (d : List ℤ) → multipliers_fit d ≡ true → Ranged d
unfolding multipliers_fit
fit_ranged d h = all_ranged d (and_both (every_of (within max_multiplier) d) (within 0 (multiplier d 1)) h).0

ranged_all : (d : List ℤ) → Ranged d → every_of (within max_multiplier) d ≡ true
unfolding every_of
ranged_all [] r = refl
ranged_all (z ∷ d) r = rw (range_within max_multiplier z (r 0 (omega arith)), ranged_all d (λ k h. r (suc k) (omega arith)))

zero_range : (z : ℤ) → InRange 0 z → z ≡ pos 0
zero_range z r = eq_of_parts z (pos 0) (omega (arith, r.high, r.low))

-- the other way: how code finds that they fit, or that they do not
pub ranged_fit : (d : List ℤ) → Ranged d → multiplier d 1 ≡ pos 0 → multipliers_fit d ≡ true
unfolding multipliers_fit
ranged_fit d r e = rw (ranged_all d r, e) (range_within 0 (pos 0) (record { high = omega arith; low = omega arith }))

pub empty_fit : (d : List ℤ) → length d ≡ 0 → multipliers_fit d ≡ true
unfolding multipliers_fit multiplier every_of within
empty_fit [] h = refl
empty_fit (z ∷ d) h = absurd (let w : suc 0 ≤ 0 = omega arith in omega arith)

pub first_wrong : (d : List ℤ) → ¬ (multiplier d 1 ≡ pos 0) → multipliers_fit d ≡ false
unfolding multipliers_fit
first_wrong d n =
    and_no_right (every_of (within max_multiplier) d) (within 0 (multiplier d 1))
    (by_cases (within 0 (multiplier d 1)) (λ t. absurd (n (zero_range (multiplier d 1) (within_range 0 (multiplier d 1) t)))) (λ t. t))

pub not_ranged : (d : List ℤ) (k : ℕ) → k < length d → within max_multiplier (get_or d k (pos 0)) ≡ false → multipliers_fit d ≡ false
not_ranged d k h e =
    by_cases (multipliers_fit d)
    (λ t. absurd (false≢true (sym e ∙ range_within max_multiplier (get_or d k (pos 0)) (fit_ranged d t k h)))) (λ t. t)

-- d(v) stands at place v − 1
pub multiplier-at : (d : List ℤ) (v : ℕ) → 1 ≤ v → get_or d (v - 1) (pos 0) ≡ multiplier d v
unfolding multiplier
multiplier-at d zero h = absurd (let z : suc 0 ≤ 0 = h in omega arith)
multiplier-at d (suc v) h = let e : suc v - 1 ≡ v = omega arith in ap (λ (i : ℕ). get_or d i (pos 0)) e

pub multiplier_range : (d : List ℤ) → Ranged d → (v : ℕ) → 1 ≤ v → v ≤ length d → InRange max_multiplier (multiplier d v)
unfolding multiplier
multiplier_range d r zero h l = absurd (let z : suc 0 ≤ 0 = h in omega arith)
multiplier_range d r (suc v) h l = r v l
