-- What a change of the multipliers at two vertices does to charges and bounds: a bound moves by each change times how far the vertex's
-- degree is from 2. Assumes nothing.
use Rattle.std.specs.Prelude.{◌≡◌, refl, ◌≢◌, Bool, false, ◌||◌, length, ℤ, negsuc, ◌+ℤ◌, ◌-ℤ◌, ◌*ℤ◌}
use Rattle.std.proofs.Math.Path.{sym, ap}
use Rattle.std.proofs.Common.{◌∙◌, arith, mul-add}
use Rattle.std.proofs.Math.Bool.{true, cond, and_comm}
use mathlib.Core.List.{List, [], ◌∷◌}
use Prim.Native.Nat.{ℕ, zero, suc, ◌+◌, ◌*◌, ◌<◌, ◌≤◌}
use Rattle.std.proofs.Math.Decide.{ℕ_discrete}
use Rattle.std.proofs.Math.Dec.{eqb}
use Rattle.std.proofs.Math.IntN.{pos, +ℤ_idl}
use borrow.Author.Tests.{eqb-true, eq-eqb, ne_eqb}
use Rattle.lists.specs.Members.{◌∈◌}
use Rattle.lists.specs.Select.{keep, select, select_in, select-select, select_cong}
use Rattle.lists.specs.Numbers.{up_to, in_up_to}
use Rattle.integers.specs.Parts.{IsDiff, up, dn, add_parts, eq_of_parts, neg-up, neg-dn, diff_self}
use Rattle.integers.specs.Differences.{sub_parts, sub_is}
use Rattle.integers.specs.Sums.{sum_z, sum_plus, sum_same}
use Rattle.graph.specs.Network.{Network}
use Rattle.tree_theory.specs.OneTree.{Edges, charge, bound}
use Rattle.tree_theory.specs.Valid.{Valid}
use Rattle.tours.specs.Tours.{degree}
use Rattle.lifting.specs.Lifted.{touches}

-- ---- products of integers, by their parts

-- x · z, where z is a − b
pub mul_diff : (x z : ℤ) (a b : ℕ) → IsDiff z a b → IsDiff (x *ℤ z) (up x * a + dn x * b) (up x * b + dn x * a)
mul_diff (pos n) (pos m) a b h =
    let e : m + b ≡ a = omega arith in
    omega (arith, mul-add n m b, ap (λ (q : ℕ). n * q) e)
mul_diff (pos n) (negsuc m) a b h =
    let e : b ≡ a + suc m = omega arith in
    omega (arith, mul-add n a (suc m), ap (λ (q : ℕ). n * q) e, neg-up (pos (n * suc m)), neg-dn (pos (n * suc m)))
mul_diff (negsuc n) (pos m) a b h =
    let e : m + b ≡ a = omega arith in
    omega (arith, mul-add (suc n) m b, ap (λ (q : ℕ). suc n * q) e, neg-up (pos (suc n * m)), neg-dn (pos (suc n * m)))
mul_diff (negsuc n) (negsuc m) a b h =
    let e : b ≡ a + suc m = omega arith in
    omega (arith, mul-add (suc n) a (suc m), ap (λ (q : ℕ). suc n * q) e)

-- ---- x at each member that passes a test

abbrev pub times : Bool → ℤ → ℤ
times true x = x
times false x = pos 0

pub sum_times : (p : ℕ → Bool) (x : ℤ) (xs : List ℕ)
    → IsDiff (sum_z (λ k. times (p k) x) xs) (up x * length (select p xs)) (dn x * length (select p xs))
unfolding sum_z select
sum_times p x [] = omega arith
sum_times p x (k ∷ ks) = go (p k) (sum_times p x ks)
  where
    rest : ℤ
    rest = sum_z (λ j. times (p j) x) ks

    go : (b : Bool) → IsDiff rest (up x * length (select p ks)) (dn x * length (select p ks))
        → IsDiff (times b x +ℤ rest) (up x * length (keep b k (select p ks))) (dn x * length (keep b k (select p ks)))
    go true h = omega (arith, add_parts x rest)
    go false h = omega (arith, add_parts (pos 0) rest)

-- ---- ends and degrees

degree_is : (g : Network) (t : Edges) (v : ℕ) → length (select (touches g v) (select t (up_to g.m))) ≡ degree g t v
unfolding degree
degree_is g t v =
    ap length (select-select (touches g v) t (up_to g.m)
    ∙ select_cong _ _ (up_to g.m) (λ k m. and_comm (touches g v k) (t k)))

-- a number stands once among those up to n
above : (n i : ℕ) → n < i → length (select (λ u. eqb u i) (up_to n)) ≡ 0
unfolding select up_to
above zero i h = refl
above (suc n) i h = rw (ne_eqb (suc n) i (omega arith)) (above n i (omega arith))

once : (n i : ℕ) → 1 ≤ i → i ≤ n → length (select (λ u. eqb u i) (up_to n)) ≡ 1
unfolding select up_to
once zero i h k = absurd (omega arith)
once (suc n) i h k = go (ℕ_discrete (suc n) i) (λ l. once n i h l)
  where
    go : Dec (suc n ≡ i) → (i ≤ n → length (select (λ u. eqb u i) (up_to n)) ≡ 1)
        → length (keep (eqb (suc n) i) (suc n) (select (λ u. eqb u i) (up_to n))) ≡ 1
    go (yes e) below = rw (eq-eqb (suc n) i e) (omega (arith, above n i (omega arith)))
    go (no e) below = rw (ne_eqb (suc n) i e) (below (omega arith))

-- ---- a change at one vertex

-- d' is d but for x more at vertex i
pub record ChangedAt (d d' : ℕ → ℤ) (i : ℕ) (x : ℤ) : Type 0 where
  pub there : d' i ≡ d i +ℤ x
  pub elsewhere : (u : ℕ) → u ≢ i → d' u ≡ d u

add_none : (z : ℤ) → z ≡ z +ℤ pos 0
add_none z = eq_of_parts z (z +ℤ pos 0) (omega (arith, add_parts z (pos 0)))

bound_ring : (S P Q R M x : ℤ) (n : ℕ) → IsDiff Q (up x * n) (dn x * n) → IsDiff R (up x * 1) (dn x * 1)
    → IsDiff M (up x * n + dn x * 2) (up x * 2 + dn x * n)
    → (S +ℤ Q) -ℤ (pos 2 *ℤ (P +ℤ R)) ≡ (S -ℤ (pos 2 *ℤ P)) +ℤ M
bound_ring S P Q R M x n q r m =
    eq_of_parts ((S +ℤ Q) -ℤ (pos 2 *ℤ (P +ℤ R))) ((S -ℤ (pos 2 *ℤ P)) +ℤ M)
    (omega (
      arith,
      add_parts S Q,
      add_parts P R,
      sub_parts (S +ℤ Q) (pos 2 *ℤ (P +ℤ R)),
      mul_diff (pos 2) (P +ℤ R) (up (P +ℤ R)) (dn (P +ℤ R)) (diff_self (P +ℤ R)),
      mul_diff (pos 2) P (up P) (dn P) (diff_self P),
      sub_parts S (pos 2 *ℤ P),
      add_parts (S -ℤ (pos 2 *ℤ P)) M,
    ))

charge_ring : (c a b p q : ℤ) → (c +ℤ (a +ℤ p)) +ℤ (b +ℤ q) ≡ ((c +ℤ a) +ℤ b) +ℤ (p +ℤ q)
charge_ring c a b p q =
    eq_of_parts ((c +ℤ (a +ℤ p)) +ℤ (b +ℤ q)) (((c +ℤ a) +ℤ b) +ℤ (p +ℤ q))
    (omega (
      arith,
      add_parts a p,
      add_parts c (a +ℤ p),
      add_parts b q,
      add_parts (c +ℤ (a +ℤ p)) (b +ℤ q),
      add_parts c a,
      add_parts (c +ℤ a) b,
      add_parts p q,
      add_parts ((c +ℤ a) +ℤ b) (p +ℤ q),
    ))

-- two tests of which at most one holds
times-or : (p q : Bool) (x : ℤ) → (p ≡ true → q ≡ true → ⊥) → times p x +ℤ times q x ≡ times (p || q) x
times-or true true x h = absurd (h refl refl)
times-or true false x h = sym (add_none x)
times-or false true x h = +ℤ_idl x
times-or false false x h = refl

module _ (d d' : ℕ → ℤ) (i : ℕ) (x : ℤ) (h : ChangedAt d d' i x) where
  one-moved : (u : ℕ) → d' u ≡ d u +ℤ times (eqb u i) x
  one-moved u = go (ℕ_discrete u i)
    where
      go : Dec (u ≡ i) → d' u ≡ d u +ℤ times (eqb u i) x
      go (yes e) = rw (eq-eqb u i e, e) h.there
      go (no e) = rw (ne_eqb u i e) (h.elsewhere u e ∙ add_none (d u))

  module _ (g : Network) (vg : Valid g) where
    charge-one : (k : ℕ) → k ∈ up_to g.m → charge g d' k ≡ charge g d k +ℤ times (touches g i k) x
    unfolding charge
    charge-one k m =
        rw (one-moved (g.a k), one-moved (g.b k))
        (charge_ring (g.cost k) (d (g.a k)) (d (g.b k)) (times (eqb (g.a k) i) x) (times (eqb (g.b k) i) x)
        ∙ ap (λ (z : ℤ). ((g.cost k +ℤ d (g.a k)) +ℤ d (g.b k)) +ℤ z) (times-or (eqb (g.a k) i) (eqb (g.b k) i) x apart))
      where
        apart : eqb (g.a k) i ≡ true → eqb (g.b k) i ≡ true → ⊥
        apart e f =
            let z : g.a k ≡ g.b k = eqb-true (g.a k) i e ∙ sym (eqb-true (g.b k) i f) in
            omega (arith, vg.apart k m)

    bound-one : i ∈ up_to g.n → (t : Edges) → bound g d' t ≡ bound g d t +ℤ (x *ℤ (pos (degree g t i) -ℤ pos 2))
    unfolding bound
    bound-one mi t =
        ap (λ (z : ℤ). z -ℤ (pos 2 *ℤ sum_z d' vs)) edges
        ∙ ap (λ (z : ℤ). (sum_z (charge g d) es +ℤ Q) -ℤ (pos 2 *ℤ z)) vertices
        ∙ bound_ring (sum_z (charge g d) es) (sum_z d vs) Q R (x *ℤ (pos (degree g t i) -ℤ pos 2)) x (degree g t i)
        (rw (degree_is g t i) at (sum_times (touches g i) x es))
        (rw (once g.n i (in_up_to g.n i mi).0 (in_up_to g.n i mi).1) at (sum_times (λ u. eqb u i) x vs))
        (mul_diff x (pos (degree g t i) -ℤ pos 2) (degree g t i) 2 (sub_is (degree g t i) 2))
      where
        es : List ℕ
        es = select t (up_to g.m)

        vs : List ℕ
        vs = up_to g.n

        Q : ℤ
        Q = sum_z (λ k. times (touches g i k) x) es

        R : ℤ
        R = sum_z (λ u. times (eqb u i) x) vs

        edges : sum_z (charge g d') es ≡ sum_z (charge g d) es +ℤ Q
        edges =
            sum_same (charge g d') (λ k. charge g d k +ℤ times (touches g i k) x) es
            (λ k m. charge-one k (select_in t (up_to g.m) k m).0)
            ∙ sum_plus (charge g d) (λ k. times (touches g i k) x) es

        vertices : sum_z d' vs ≡ sum_z d vs +ℤ R
        vertices =
            sum_same d' (λ u. d u +ℤ times (eqb u i) x) vs (λ u m. one-moved u) ∙ sum_plus d (λ u. times (eqb u i) x) vs

-- ---- a change at two vertices

-- d' is d but for x more at vertex i and y more at vertex j
pub record Changed (d d' : ℕ → ℤ) (i j : ℕ) (x y : ℤ) : Type 0 where
  pub first : d' i ≡ d i +ℤ x
  pub second : d' j ≡ d j +ℤ y
  pub elsewhere : (u : ℕ) → u ≢ i → u ≢ j → d' u ≡ d u

module _ (d d' : ℕ → ℤ) (i j : ℕ) (x y : ℤ) (ne : i ≢ j) (h : Changed d d' i j x y) where
  -- with the first of the two changes
  half : ℕ → ℤ
  half u = cond (eqb u i) (d' u) (d u)

  half-first : ChangedAt d half i x
  unfolding half
  half-first = record {
    there = rw (eq-eqb i i refl) h.first;
    elsewhere = λ u n. rw (ne_eqb u i n);
  }

  half-second : ChangedAt half d' j y
  unfolding half
  half-second = record {
    there = rw (ne_eqb j i (λ e. ne (sym e))) h.second;
    elsewhere = λ u n. go u n (ℕ_discrete u i);
  }
    where
      go : (u : ℕ) → u ≢ j → Dec (u ≡ i) → d' u ≡ cond (eqb u i) (d' u) (d u)
      go u n (yes e) = rw (eq-eqb u i e)
      go u n (no e) = rw (ne_eqb u i e) (h.elsewhere u e n)

  module _ (g : Network) (vg : Valid g) where
    -- the charge of an edge changes with each end
    pub charge_changed : (k : ℕ) → k ∈ up_to g.m
        → charge g d' k ≡ (charge g d k +ℤ times (touches g i k) x) +ℤ times (touches g j k) y
    charge_changed k m =
        charge-one half d' j y half-second g vg k m
        ∙ ap (λ (z : ℤ). z +ℤ times (touches g j k) y) (charge-one d half i x half-first g vg k m)

    -- THE BOUND of a set of edges changes by each change times the vertex's degree less 2
    pub bound_changed : i ∈ up_to g.n → j ∈ up_to g.n → (t : Edges)
        → bound g d' t
        ≡ (bound g d t +ℤ (x *ℤ (pos (degree g t i) -ℤ pos 2))) +ℤ (y *ℤ (pos (degree g t j) -ℤ pos 2))
    bound_changed mi mj t =
        bound-one half d' j y half-second g vg mj t
        ∙ ap (λ (z : ℤ). z +ℤ (y *ℤ (pos (degree g t j) -ℤ pos 2))) (bound-one d half i x half-first g vg mi t)
