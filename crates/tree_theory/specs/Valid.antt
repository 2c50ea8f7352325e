-- What the laws of 1-trees ask of a network, and what they make of its vertices and edges. The check of a graph value gives it.
use Rattle.std.specs.Prelude.{◌≡◌, refl, Bool, true, false, ◌&&◌, List, ℕ, zero, suc, ◌+◌, ◌≤◌, ◌<◌, eqb, length}
use Rattle.std.proofs.Common.{sym, ap, ◌∙◌, true≢false, arith}
use Rattle.std.proofs.Math.Bool.{not}
use borrow.Author.Tests.{eqb-false, ne_eqb, not-true}
use Rattle.lists.specs.Bools.{and_both}
use Rattle.lists.specs.Members.{◌∈◌}
use Rattle.lists.specs.Select.{select, select_in, in_select}
use Rattle.lists.specs.Distinct.{Distinct, distinct-select}
use Rattle.lists.specs.Numbers.{up_to, up_to_in, in_up_to, distinct-up_to}
use Rattle.graph.specs.Network.{Network, Mark, free, required, excluded}
use Rattle.spanning.specs.Components.{Within}
use Rattle.tree_theory.specs.OneTree.{Edges, others}

-- "n from 3"; "A leg joins a and b, 1 ≤ a < b ≤ n"
pub record Valid (g : Network) : Type 0 where
  pub big : 3 ≤ g.n
  pub low : (k : ℕ) → k ∈ up_to g.m → 1 ≤ g.a k
  pub apart : (k : ℕ) → k ∈ up_to g.m → g.a k < g.b k
  pub high : (k : ℕ) → k ∈ up_to g.m → g.b k ≤ g.n

-- ---- the vertices other than vertex 1

module _ (g : Network) where
  pub others_in : (v : ℕ) → v ∈ others g → (2 ≤ v) × (v ≤ g.n)
  unfolding others
  others_in v m = (omega (arith, (in_up_to g.n v i.0).0, eqb-false v 1 (not-true (eqb v 1) i.1)), (in_up_to g.n v i.0).1)
    where
      i : (v ∈ up_to g.n) × (not (eqb v 1) ≡ true)
      i = select_in (λ u. not (eqb u 1)) (up_to g.n) v m

  pub in_others : (v : ℕ) → 2 ≤ v → v ≤ g.n → v ∈ others g
  unfolding others
  in_others v h k =
      in_select (λ u. not (eqb u 1)) (up_to g.n) v (up_to_in g.n v (omega arith) k) (ap not (ne_eqb v 1 (omega arith)))

  pub distinct-others : Distinct (others g)
  unfolding others
  distinct-others = distinct-select (λ u. not (eqb u 1)) (up_to g.n) (distinct-up_to g.n)

pub two_in : (g : Network) → Valid g → 2 ∈ others g
two_in g vg = in_others g 2 (omega arith) (omega (arith, vg.big))

-- all but one of the numbers up to n
but_one : (n : ℕ) → 1 ≤ n → length (select (λ v. not (eqb v 1)) (up_to n)) + 1 ≡ n
unfolding select up_to
but_one zero h = absurd (let z : 1 ≤ 0 = omega arith in omega arith)
but_one (suc zero) h = refl
but_one (suc (suc n)) h = rw (ne_eqb (suc (suc n)) 1 (omega arith)) (omega (arith, but_one (suc n) (omega arith)))

pub length-others : (g : Network) → 1 ≤ g.n → length (others g) + 1 ≡ g.n
unfolding others
length-others g h = but_one g.n h

-- ---- marks

abbrev pub is_free : Mark → Bool
is_free free = true
is_free required = false
is_free excluded = false

abbrev pub is_required : Mark → Bool
is_required free = false
is_required required = true
is_required excluded = false

abbrev pub is_excluded : Mark → Bool
is_excluded free = false
is_excluded required = false
is_excluded excluded = true

pub required_is : (x : Mark) → is_required x ≡ true → x ≡ required
required_is free h = absurd (true≢false (sym h))
required_is required h = refl
required_is excluded h = absurd (true≢false (sym h))

pub excluded_is : (x : Mark) → is_excluded x ≡ true → x ≡ excluded
excluded_is free h = absurd (true≢false (sym h))
excluded_is required h = absurd (true≢false (sym h))
excluded_is excluded h = refl

pub required_not : (x : Mark) → is_required x ≡ true → is_excluded x ≡ false
required_not free h = refl
required_not required h = refl
required_not excluded h = sym h

pub free_is : (x : Mark) → is_required x ≡ false → is_excluded x ≡ false → is_free x ≡ true
free_is free h i = refl
free_is required h i = sym h
free_is excluded h i = sym i

pub free_not : (x : Mark) → is_free x ≡ true → (is_required x ≡ false) × (is_excluded x ≡ false)
free_not free h = (refl, refl)
free_not required h = absurd (true≢false (sym h))
free_not excluded h = absurd (true≢false (sym h))

-- ---- the edges that are not excluded: near, at vertex 1, and far, the others

abbrev pub needed : Network → Edges
needed g k = is_required (g.mark k)

abbrev pub is_near : Network → Edges
is_near g k = eqb (g.a k) 1

unfoldable pub near : Network → List ℕ
near g = select (λ k. is_near g k && not (is_excluded (g.mark k))) (up_to g.m)

unfoldable pub far : Network → List ℕ
far g = select (λ k. not (is_near g k) && not (is_excluded (g.mark k))) (up_to g.m)

module _ (g : Network) where
  pub distinct-near : Distinct (near g)
  unfolding near
  distinct-near = distinct-select _ (up_to g.m) (distinct-up_to g.m)

  pub distinct-far : Distinct (far g)
  unfolding far
  distinct-far = distinct-select _ (up_to g.m) (distinct-up_to g.m)

  pub near_in : (k : ℕ) → k ∈ near g → (k ∈ up_to g.m) × (is_near g k ≡ true) × (is_excluded (g.mark k) ≡ false)
  unfolding near
  near_in k m = (i.0, j.0, not-true _ j.1)
    where
      i : (k ∈ up_to g.m) × (is_near g k && not (is_excluded (g.mark k)) ≡ true)
      i = select_in (λ j. is_near g j && not (is_excluded (g.mark j))) (up_to g.m) k m

      j : (is_near g k ≡ true) × (not (is_excluded (g.mark k)) ≡ true)
      j = and_both (is_near g k) (not (is_excluded (g.mark k))) i.1

  pub far_in : (k : ℕ) → k ∈ far g → (k ∈ up_to g.m) × (is_near g k ≡ false) × (is_excluded (g.mark k) ≡ false)
  unfolding far
  far_in k m = (i.0, not-true _ j.0, not-true _ j.1)
    where
      i : (k ∈ up_to g.m) × (not (is_near g k) && not (is_excluded (g.mark k)) ≡ true)
      i = select_in (λ j. not (is_near g j) && not (is_excluded (g.mark j))) (up_to g.m) k m

      j : (not (is_near g k) ≡ true) × (not (is_excluded (g.mark k)) ≡ true)
      j = and_both (not (is_near g k)) (not (is_excluded (g.mark k))) i.1

  pub in_near : (k : ℕ) → k ∈ up_to g.m → is_near g k ≡ true → is_excluded (g.mark k) ≡ false → k ∈ near g
  unfolding near
  in_near k m h i = in_select (λ j. is_near g j && not (is_excluded (g.mark j))) (up_to g.m) k m (rw (h, i))

  pub in_far : (k : ℕ) → k ∈ up_to g.m → is_near g k ≡ false → is_excluded (g.mark k) ≡ false → k ∈ far g
  unfolding far
  in_far k m h i = in_select (λ j. not (is_near g j) && not (is_excluded (g.mark j))) (up_to g.m) k m (rw (h, i))

  pub near-not-far : (k : ℕ) → k ∈ near g → ¬ (k ∈ far g)
  near-not-far k m i = true≢false (sym (near_in k m).1 ∙ (far_in k i).1)

  -- a listed edge that is not near has both its ends among the other vertices
  pub far_ends : Valid g → (k : ℕ) → k ∈ up_to g.m → is_near g k ≡ false → (g.a k ∈ others g) × (g.b k ∈ others g)
  far_ends vg k m h = (
    in_others g (g.a k) above (omega (arith, vg.apart k m, vg.high k m)),
    in_others g (g.b k) (omega (arith, above, vg.apart k m)) (vg.high k m),
  )
    where
      above : 2 ≤ g.a k
      above = omega (arith, vg.low k m, eqb-false (g.a k) 1 h)

  pub far_within : Valid g → Within g.a g.b (others g) (far g)
  far_within vg k m = far_ends vg k (far_in k m).0 (far_in k m).1
