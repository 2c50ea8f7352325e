-- A 1-tree that no swap improves is minimal: of any other 1-tree an edge may change places with one of it, which makes the other no
-- dearer and one edge more like it, until they are the same.
use Rattle.std.specs.Prelude.{◌≡◌, ◌⊎◌, ◌||◌, List, [], ◌∷◌, ℕ, zero, suc, ◌+◌, ◌-◌, ◌≤◌, ℤ, ◌≤ℤ◌}
use Rattle.std.proofs.Common.{sym, ap, ◌∙◌, inl, inr, true≢false}
use Rattle.std.proofs.Math.Bool.{true, false, not}
use native.Mathlib.Omega.{arith}
use Rattle.lists.specs.Bools.{by_cases, bit, or_none, or_case, not-not}
use Rattle.lists.specs.Members.{◌∈◌}
use Rattle.lists.specs.All.{every_of, every_of_in, not-every_of}
use Rattle.lists.specs.Select.{select, select_cong}
use Rattle.lists.specs.Numbers.{up_to, distinct-up_to}
use Rattle.lists.specs.Weights.{weight}
use Rattle.lists.specs.Sets.{◌⊕◌, ◌⊖◌, swapped_weight}
use Rattle.integers.specs.Parts.{up, dn, le_parts, parts_le}
use Rattle.graph.specs.Network.{Network}
use Rattle.tree_theory.specs.OneTree.{Edges, OneTree, charge, bound}
use Rattle.tree_theory.specs.Valid.{Valid}
use Rattle.tree_theory.specs.Optimal.Link.{Parts, to_parts, of_parts}
use Rattle.tree_theory.specs.Optimal.Bound.{Shifted, bound-le, le-bound}
use Rattle.tree_theory.specs.Optimal.Exchange.{Minimal, Exchanged, exchanged}
use Rattle.tree_theory.specs.Optimal.Criteria.{MaySwap, may_swap, swap_may}

-- ---- charges as natural numbers, of any network and any multipliers

weight_member : (w : ℕ → ℕ) (xs : List ℕ) (k : ℕ) → k ∈ xs → w k ≤ weight w xs
unfolding weight
weight_member w [] k m = absurd m
weight_member w (x ∷ xs) k (inl e) = rw e (omega arith)
weight_member w (x ∷ xs) k (inr m) = omega (arith, weight_member w xs k m)

-- enough to add to each charge
unfoldable pub shift : Network → (ℕ → ℤ) → ℕ
shift g d = weight (λ k. dn (charge g d k)) (up_to g.m)

unfoldable pub shifted : Network → (ℕ → ℤ) → ℕ → ℕ
unfolding shift
shifted g d k = up (charge g d k) + (shift g d - dn (charge g d k))

pub is_shifted : (g : Network) (d : ℕ → ℤ) → Shifted g d (shift g d) (shifted g d)
unfolding shifted shift
is_shifted g d k m = omega (arith, weight_member (λ j. dn (charge g d j)) (up_to g.m) k m)

-- ---- the induction

module _ (g : Network) (c : ℕ → ℕ) (t : Edges) (ot : Parts g t)
    (still : (f e : ℕ) → f ∈ up_to g.m → e ∈ up_to g.m → t f ≡ true → t e ≡ false → Parts g (t ⊖ f ⊕ e) → c f ≤ c e) where
  weighs : Edges → ℕ
  weighs s = weight c (select s (up_to g.m))

  -- how many edges of s are not in t
  outside : Edges → ℕ
  outside s = weight (λ k. bit (not (t k))) (select s (up_to g.m))

  -- either s has no such edge, or one changes places
  step : (n : ℕ) (s : Edges) → Parts g s → outside s ≤ n
      → ((r : Edges) → Parts g r → suc (outside r) ≤ n → weighs t ≤ weighs r) → weighs t ≤ weighs s
  unfolding weighs outside
  step n s os few below =
      by_cases (every_of (λ k. not (s k) || t k) (up_to g.m)) (λ h. alike (every_of_in _ (up_to g.m) h))
      (λ h. differ (not-every_of _ (up_to g.m) h))
    where
      differ : (e : ℕ) × (e ∈ up_to g.m) × (not (s e) || t e ≡ false) → weighs t ≤ weighs s
      differ r =
          let o = or_none (not (s r.0)) (t r.0) r.2 in
          go r.0 r.1 (not-not (s r.0) (ap not o.0)) o.1
        where
          go : (e : ℕ) → e ∈ up_to g.m → s e ≡ true → t e ≡ false → weighs t ≤ weighs s
          go e me se te =
              let x : Exchanged g t s e = exchanged g t s ot os e me te se in
              let w = swapped_weight (up_to g.m) (distinct-up_to g.m) s e x.f me x.listed se x.other in
              let one : bit (not (t e)) ≡ 1 = rw te in
              let none : bit (not (t x.f)) ≡ 0 = rw x.mine in
              omega (
                arith,
                below (s ⊖ e ⊕ x.f) x.one' (omega (arith, w (λ k. bit (not (t k))), one, none)),
                w c,
                still x.f e x.listed me x.mine te x.one,
              )

      alike : ((k : ℕ) → k ∈ up_to g.m → not (s k) || t k ≡ true) → weighs t ≤ weighs s
      alike h = rw (select_cong t s (up_to g.m) same) (omega arith)
        where
          inside : (k : ℕ) → k ∈ up_to g.m → s k ≡ true → t k ≡ true
          inside k m i = go (or_case (not (s k)) (t k) (h k m))
            where
              go : (not (s k) ≡ true) ⊎ (t k ≡ true) → t k ≡ true
              go (inl j) = absurd (true≢false (sym j ∙ ap not i))
              go (inr j) = j

          same : (k : ℕ) → k ∈ up_to g.m → t k ≡ s k
          same k m = by_cases (s k) (λ i. inside k m i ∙ sym i) (λ i. by_cases (t k) (λ j. absurd (clash i j)) (λ j. j ∙ sym i))
            where
              clash : s k ≡ false → t k ≡ true → ⊥
              clash i j =
                  let x : Exchanged g s t k = exchanged g s t os ot k m i j in
                  true≢false (sym (inside x.f x.listed x.mine) ∙ x.other)

  lightest : (n : ℕ) (s : Edges) → Parts g s → outside s ≤ n → weighs t ≤ weighs s
  lightest zero s os h = step zero s os h (λ r o l. absurd (omega arith))
  lightest (suc n) s os h = step (suc n) s os h (λ r o l. lightest n r o (omega arith))

  pub lighter : (s : Edges) → Parts g s → weight c (select t (up_to g.m)) ≤ weight c (select s (up_to g.m))
  unfolding weighs
  lighter s os = lightest (outside s) s os (omega arith)

-- ---- a 1-tree that no swap improves

module _ (g : Network) (vg : Valid g) (d : ℕ → ℤ) (t : Edges) where
  -- the two charges of a swap compare as the bounds do
  module _ (o : OneTree g t) (f e : ℕ) (mf : f ∈ up_to g.m) (me : e ∈ up_to g.m) (tf : t f ≡ true) (te : t e ≡ false)
      (x : Parts g (t ⊖ f ⊕ e)) where
    w : weight (shifted g d) (select (t ⊖ f ⊕ e) (up_to g.m)) + shifted g d f
        ≡ weight (shifted g d) (select t (up_to g.m)) + shifted g d e
    w = swapped_weight (up_to g.m) (distinct-up_to g.m) t f e mf me tf te (shifted g d)

    pub swap_charges : bound g d t ≤ℤ bound g d (t ⊖ f ⊕ e) → charge g d f ≤ℤ charge g d e
    swap_charges h =
        parts_le (charge g d f) (charge g d e)
        (omega (
          arith,
          w,
          is_shifted g d f mf,
          is_shifted g d e me,
          le-bound g d (shift g d) (shifted g d) (is_shifted g d) t (t ⊖ f ⊕ e) (to_parts g vg t o) x h,
        ))

  -- NO SWAP IMPROVES IT: then nothing does. By charges, as a program compares them
  pub by_charges : OneTree g t
      → ((f e : ℕ) → f ∈ up_to g.m → e ∈ up_to g.m → t f ≡ true → t e ≡ false → MaySwap g t f e → charge g d f ≤ℤ charge g d e)
      → Minimal g d t
  by_charges o h = record {
    tree = o;
    least = λ s os. bound-le g d (shift g d) (shifted g d) (is_shifted g d) t s (to_parts g vg t o) (to_parts g vg s os)
        (lighter g (shifted g d) t (to_parts g vg t o) still s (to_parts g vg s os));
  }
    where
      still : (f e : ℕ) → f ∈ up_to g.m → e ∈ up_to g.m → t f ≡ true → t e ≡ false → Parts g (t ⊖ f ⊕ e)
          → shifted g d f ≤ shifted g d e
      still f e mf me tf te x =
          omega (
            arith,
            is_shifted g d f mf,
            is_shifted g d e me,
            le_parts (charge g d f) (charge g d e) (h f e mf me tf te (swap_may g t (to_parts g vg t o) f e mf me tf te x)),
          )

  -- and by bounds
  pub by_bounds : OneTree g t
      → ((f e : ℕ) → f ∈ up_to g.m → e ∈ up_to g.m → t f ≡ true → t e ≡ false → OneTree g (t ⊖ f ⊕ e)
      → bound g d t ≤ℤ bound g d (t ⊖ f ⊕ e))
      → Minimal g d t
  by_bounds o h =
      by_charges o
      (λ f e mf me tf te may.
      let x : Parts g (t ⊖ f ⊕ e) = may_swap g t (to_parts g vg t o) f e mf me tf te may in
      swap_charges o f e mf me tf te x (h f e mf me tf te (of_parts g vg (t ⊖ f ⊕ e) x)))

  -- in a minimal 1-tree no edge costs more than one that may take its place
  pub minimal_charges : Minimal g d t → (f e : ℕ) → f ∈ up_to g.m → e ∈ up_to g.m → t f ≡ true → t e ≡ false → MaySwap g t f e
      → charge g d f ≤ℤ charge g d e
  minimal_charges l f e mf me tf te may =
      let x : Parts g (t ⊖ f ⊕ e) = may_swap g t (to_parts g vg t l.tree) f e mf me tf te may in
      swap_charges l.tree f e mf me tf te x (l.least (t ⊖ f ⊕ e) (of_parts g vg (t ⊖ f ⊕ e) x))
