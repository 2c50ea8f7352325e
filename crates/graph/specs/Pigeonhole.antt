-- A graph has at most 190 edges by its pairs alone: the pairs 1 ≤ x < y ≤ 20 have numbers below 190, and no number comes up twice. So
-- reading never runs out of places. Assumes nothing.
use Prim.Native.Nat.{ℕ, zero, suc, ◌+◌, ◌-◌, ◌<◌, ◌≤◌}
use Rattle.std.specs.Prelude.{◌≡◌, false, cond, get_or, ltb, eqb, ℤ}
use Rattle.std.proofs.Math.Path.{refl, sym}
use Rattle.std.proofs.Common.{◌∙◌}
use native.Mathlib.Omega.{arith}
use borrow.Author.Tests.{ltb-true, ltb-false, eqb-true, eqb-false, eq-eqb, ne_eqb}
use Rattle.lists.specs.Bools.{by_cases}
use Rattle.graph.specs.declared.Graph.{Graph}
use Rattle.graph.specs.Limits.{max_edges}
use Rattle.graph.specs.Valid.{EdgeValid, Valid, pair_met}
use Rattle.graph.specs.Meaning.{pair_new}

-- ---- pigeonhole: k numbers below N, none twice, and one more number below N that is none of them

-- is v the number i, as 1 or 0
unfoldable one : ℕ → ℕ → ℕ
one v i = cond (eqb v i) 1 0

one_eq : (v i : ℕ) → v ≡ i → one v i ≡ 1
unfolding one
one_eq v i h = rw (eq-eqb v i h)

one_ne : (v i : ℕ) → (v ≡ i → ⊥) → one v i ≡ 0
unfolding one
one_ne v i h = rw (ne_eqb v i h)

module _ (f : ℕ → ℕ) where
  -- how many of the first k are i, and how many are below N
  unfoldable times : ℕ → ℕ → ℕ
  times zero i = 0
  times (suc k) i = times k i + one (f k) i

  unfoldable below : ℕ → ℕ → ℕ
  below zero k = 0
  below (suc N) k = below N k + times k N

  below_none : (N : ℕ) → below N 0 ≡ 0
  unfolding below times
  below_none zero = refl
  below_none (suc N) = omega (arith, below_none N)

  below-high : (N k : ℕ) → N ≤ f k → below N (suc k) ≡ below N k
  unfolding below times
  below-high zero k h = refl
  below-high (suc N) k h = omega (arith, below-high N k (omega arith), one_ne (f k) N (λ e. omega arith))

  below_low : (N k : ℕ) → f k < N → below N (suc k) ≡ below N k + 1
  unfolding below times
  below_low zero k h = absurd (omega arith)
  below_low (suc N) k h =
      by_cases (ltb (f k) N)
      (λ t. let q : f k < N = ltb-true (f k) N t in omega (arith, below_low N k q, one_ne (f k) N (λ e. omega arith)))
      (λ t. let q : f k ≡ N = omega (arith, ltb-false (f k) N t) in omega (arith, below-high N k (omega arith), one_eq (f k) N q))

  below_all : (N k : ℕ) → ((j : ℕ) → j < k → f j < N) → below N k ≡ k
  below_all N zero h = below_none N
  below_all N (suc k) h = omega (arith, below_low N k (h k (omega arith)), below_all N k (λ j l. h j (omega arith)))

  times_none : (k v : ℕ) → ((j : ℕ) → j < k → f j ≡ v → ⊥) → times k v ≡ 0
  unfolding times
  times_none zero v h = refl
  times_none (suc k) v h = omega (arith, times_none k v (λ j l. h j (omega arith)), one_ne (f k) v (h k (omega arith)))

  times_once : (k : ℕ) → ((j : ℕ) → j < k → (i : ℕ) → i < j → f i ≡ f j → ⊥) → (v : ℕ) → times k v ≤ 1
  unfolding times
  times_once zero h v = omega arith
  times_once (suc k) h v =
      by_cases (eqb (f k) v)
      (λ t. let q : f k ≡ v = eqb-true (f k) v t in
      omega (arith, times_none k v (λ j l e. h k (omega arith) j l (e ∙ sym q)), one_eq (f k) v q))
      (λ t. omega (arith, times_once k (λ j l. h j (omega arith)) v, one_ne (f k) v (eqb-false (f k) v t)))

  below_most : (N k : ℕ) → ((v : ℕ) → times k v ≤ 1) → below N k ≤ N
  unfolding below
  below_most zero k h = omega arith
  below_most (suc N) k h = omega (arith, below_most N k h, h N)

  below_gap : (N k v : ℕ) → ((w : ℕ) → times k w ≤ 1) → times k v ≡ 0 → v < N → below N k < N
  unfolding below
  below_gap zero k v h e l = absurd (omega arith)
  below_gap (suc N) k v h e l =
      by_cases (ltb v N) (λ t. omega (arith, below_gap N k v h e (ltb-true v N t), h N))
      (λ t. let q : v ≡ N = omega (arith, ltb-false v N t) in
      let z : times k N ≡ 0 = (rw q at e) in omega (arith, below_most N k h))

  pub pigeonhole : (N k v : ℕ) → ((j : ℕ) → j < k → f j < N) → ((j : ℕ) → j < k → (i : ℕ) → i < j → f i ≡ f j → ⊥)
      → v < N → ((j : ℕ) → j < k → f j ≡ v → ⊥) → k < N
  pigeonhole N k v low once l new =
      omega (arith, below_all N k low, below_gap N k v (times_once k once) (times_none k v new) l)

-- ---- the number of a pair 1 ≤ x < y: the pairs with smaller y come first

-- 0 + 1 + … + (y − 1)
unfoldable triangle : ℕ → ℕ
triangle zero = 0
triangle (suc y) = triangle y + y

triangle-up : (y z : ℕ) → y < z → triangle y + y ≤ triangle z
unfolding triangle
triangle-up y zero h = absurd (omega arith)
triangle-up y (suc z) h =
    by_cases (ltb y z) (λ e. let q : y < z = ltb-true y z e in omega (arith, triangle-up y z q))
    (λ e. let q : y ≡ z = omega (arith, ltb-false y z e) in rw q (omega arith))

unfoldable number : ℕ → ℕ → ℕ
number x y = triangle (y - 1) + (x - 1)

record Ends (x y : ℕ) : Type 0 where
  pub from : 1 ≤ x
  pub less : x < y

number-below : (x y : ℕ) → Ends x y → number x y < triangle y
unfolding number triangle
number-below x zero e = absurd (omega (arith, e.less))
number-below x (suc y) e = let q : suc y - 1 ≡ y = omega arith in rw q (omega (arith, e.from, e.less))

number-top : (x y : ℕ) → Ends x y → y ≤ 20 → number x y < 190
unfolding triangle
number-top x y e h =
    by_cases (ltb y 20)
    (λ t. let q : y < 20 = ltb-true y 20 t in omega (arith, number-below x y e, triangle-up y 20 q))
    (λ t. let q : y ≡ 20 = omega (arith, ltb-false y 20 t) in
    let r : triangle y ≡ 190 = rw q in omega (arith, number-below x y e))

number_apart : (x y u v : ℕ) → Ends x y → Ends u v → y < v → number x y < number u v
unfolding number
number_apart x y u v e f h =
    by_cases (ltb y (v - 1)) (λ t. omega (arith, number-below x y e, triangle-up y (v - 1) (ltb-true y (v - 1) t)))
    (λ t. let q : v - 1 ≡ y = omega (arith, ltb-false y (v - 1) t) in rw q (omega (arith, number-below x y e)))

number_same : (x y u v : ℕ) → Ends x y → Ends u v → number x y ≡ number u v → (x ≡ u) × (y ≡ v)
unfolding number
number_same x y u v e f h =
    by_cases (ltb y v) (λ t. absurd (omega (arith, number_apart x y u v e f (ltb-true y v t))))
    (λ t. by_cases (ltb v y) (λ w. absurd (omega (arith, number_apart u v x y f e (ltb-true v y w))))
    (λ w. let q : y ≡ v = omega (arith, ltb-false y v t, ltb-false v y w) in
    let r : triangle (v - 1) + (x - 1) ≡ triangle (v - 1) + (u - 1) = (rw q at h) in (omega (arith, e.from, f.from), q)))

-- ---- a graph

ends : (n x y : ℕ) (z : ℤ) (w : ℕ) → EdgeValid n x y z w → Ends x y
ends n x y z w e = record { from = e.from; less = e.less }

-- where one edge more would be valid, there is a place for it
pub room : (g : Graph) (x y : ℕ) (z : ℤ) (w : ℕ) → Valid g → EdgeValid g.n x y z w → pair_met g.a g.b g.m x y ≡ false
    → g.m < max_edges
room g x y z w v e n =
    let a : ℕ → ℕ = λ j. get_or g.a j 0 in
    let b : ℕ → ℕ = λ j. get_or g.b j 0 in
    let at : (j : ℕ) → j < g.m → Ends (a j) (b j) = λ j l. ends g.n (a j) (b j) _ _ (v.each j l) in
    let p : Ends x y = ends g.n x y z w e in
    pigeonhole (λ j. number (a j) (b j)) max_edges g.m (number x y)
    (λ j l. number-top (a j) (b j) (at j l) (omega (arith, (v.each j l).to, v.high)))
    (λ j l i h q. let s = number_same (a i) (b i) (a j) (b j) (at i (omega arith)) (at j l) q in
    v.once i j h l (record { a = s.0; b = s.1 }))
    (number-top x y p (omega (arith, e.to, v.high)))
    (λ j l q. let s = number_same (a j) (b j) x y (at j l) p q in
    pair_new g.a g.b g.m x y n j l s.0 s.1)
