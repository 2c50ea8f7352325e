-- What a program compares. Which swaps of a 1-tree are 1-trees is told by labels; and bars and forces are told by sums of natural
-- numbers, over these swaps of a minimal 1-tree alone.
use Rattle.std.specs.Prelude.{◌≡◌, refl, ◌≢◌, ◌↔◌, ◌⊎◌, Bool, true, false, ℕ, suc, ◌+◌, ◌*◌, ◌<◌, length, ℤ, ◌<ℤ◌}
use Rattle.std.proofs.Common.{sym, ap, ◌∙◌, inl, inr, true≢false, arith}
use Rattle.lists.specs.Members.{◌∈◌}
use Rattle.lists.specs.Select.{select, select_cong}
use Rattle.lists.specs.Numbers.{up_to, distinct-up_to}
use Rattle.lists.specs.Weights.{weight}
use Rattle.lists.specs.Same.{shuffle_length}
use Rattle.lists.specs.Sets.{◌⊕◌, ◌⊖◌, plus_self, plus_other, minus_self, minus_other, minus_false, select_plus, select_minus}
use Rattle.lists.specs.Sets.{swapped_weight}
use Rattle.integers.specs.Parts.{IsDiff, up, dn}
use Rattle.graph.specs.Network.{Network}
use Rattle.spanning.specs.Walks.{label}
use Rattle.spanning.specs.Forests.{forest_joins}
use Rattle.spanning.specs.Trees.{swap-tree, forest_plus}
use Rattle.tree_theory.specs.OneTree.{Edges, OneTree, bound, Barred, Forced}
use Rattle.tree_theory.specs.Valid.{Valid, is_excluded, needed, is_near, near, far, distinct-near, distinct-far, near_in, in_near, in_far}
use Rattle.tree_theory.specs.Optimal.Link.{Parts, to_parts, of_parts, in_allowed, out_loose}
use Rattle.tree_theory.specs.Optimal.Bound.{Shifted, twice_all, bound-above}
use Rattle.tree_theory.specs.Optimal.Exchange.{Minimal, swap-far, swap-near, barred_iff, forced_iff}

-- ---- which swaps are 1-trees

-- without f, the far edges of s leave the ends of e apart
abbrev pub Apart : Network → Edges → ℕ → ℕ → Type 0
Apart g s f e =
    (label g.a g.b (select (s ⊖ f) (far g)) (g.a e) ≢ label g.a g.b (select (s ⊖ f) (far g)) (g.b e))

-- both at vertex 1; or neither, and e joins the two parts that the others leave without f
abbrev pub Place : Network → Edges → ℕ → ℕ → Type 0
Place g s f e = ((is_near g f ≡ true) × (is_near g e ≡ true)) ⊎ ((is_near g f ≡ false) × (is_near g e ≡ false) × Apart g s f e)

-- e may take the place of f
pub record MaySwap (g : Network) (s : Edges) (f e : ℕ) : Type 0 where
  pub loose : needed g f ≡ false
  pub allowed : is_excluded (g.mark e) ≡ false
  pub place : Place g s f e

module _ (g : Network) (s : Edges) (o : Parts g s) (f e : ℕ) (mf : f ∈ up_to g.m) (me : e ∈ up_to g.m) (sf : s f ≡ true)
    (se : s e ≡ false) where
  fx : is_excluded (g.mark f) ≡ false
  fx = in_allowed g s o f mf sf

  pub may_swap : MaySwap g s f e → Parts g (s ⊖ f ⊕ e)
  may_swap m = go m.place
    where
      go : Place g s f e → Parts g (s ⊖ f ⊕ e)
      go (inl h) =
          swap-near g s o f e m.loose m.allowed (in_near g f mf h.0 fx) (in_near g e me h.1 m.allowed) sf se
      go (inr h) =
          let ff : f ∈ far g = in_far g f mf h.0 fx in
          let fe : e ∈ far g = in_far g e me h.1 m.allowed in
          swap-far g s o f e m.loose m.allowed ff fe
          (swap-tree g.a g.b (far g) (distinct-far g) s f e o.tree ff fe sf h.2)

  -- an edge that is not near does not count among the near ones
  not_plus : (t : Edges) → is_near g e ≡ false → select (t ⊕ e) (near g) ≡ select t (near g)
  not_plus t h =
      select_cong (t ⊕ e) t (near g)
      (λ k j. plus_other t e k (λ i. true≢false (sym (near_in g k j).1 ∙ ap (is_near g) i ∙ h)))

  not_minus : (t : Edges) → is_near g f ≡ false → select (t ⊖ f) (near g) ≡ select t (near g)
  not_minus t h =
      select_cong (t ⊖ f) t (near g)
      (λ k j. minus_other t f k (λ i. true≢false (sym (near_in g k j).1 ∙ ap (is_near g) i ∙ h)))

  pub swap_may : Parts g (s ⊖ f ⊕ e) → MaySwap g s f e
  swap_may x = record { loose = out_loose g (s ⊖ f ⊕ e) x f mf gone; allowed = allowed; place = place (is_near g f) (is_near g e) refl refl }
    where
      gone : (s ⊖ f ⊕ e) f ≡ false
      gone = plus_other (s ⊖ f) e f (λ i. true≢false (sym sf ∙ ap s i ∙ se)) ∙ minus_self s f

      allowed : is_excluded (g.mark e) ≡ false
      allowed = in_allowed g (s ⊖ f ⊕ e) x e me (plus_self (s ⊖ f) e)

      out : (s ⊖ f) e ≡ false
      out = minus_false s f e se

      fewer : is_near g f ≡ true → length (select s (near g)) ≡ suc (length (select (s ⊖ f) (near g)))
      fewer h = shuffle_length (select_minus s f (near g) (distinct-near g) (in_near g f mf h fx) sf)

      more : is_near g e ≡ true → length (select (s ⊖ f ⊕ e) (near g)) ≡ suc (length (select (s ⊖ f) (near g)))
      more h = shuffle_length (select_plus (s ⊖ f) e (near g) (distinct-near g) (in_near g e me h allowed) out)

      apart : is_near g e ≡ false → Apart g s f e
      apart h =
          forest_joins g.a g.b e (select (s ⊖ f) (far g))
          ((forest_plus g.a g.b (far g) (distinct-far g) (s ⊖ f) e (in_far g e me h allowed) out).0 x.tree.forest)

      place : (b b' : Bool) → is_near g f ≡ b → is_near g e ≡ b' → Place g s f e
      place true true h i = inl (h, i)
      place false false h i = inr (h, i, apart i)
      place true false h i =
          absurd (let z : ◌≡◌ {A = ℕ} 1 2 = omega (arith, fewer h, o.two, x.two, ap length (not_plus (s ⊖ f) i)) in omega arith)
      place false true h i =
          absurd (let z : ◌≡◌ {A = ℕ} 3 2 = omega (arith, more i, o.two, x.two, ap length (not_minus s h)) in omega arith)

-- ---- against a ceiling u − v, in natural numbers

-- b for a in s is above the ceiling
abbrev pub SwapAbove : Network → (ℕ → ℤ) → ℕ → (ℕ → ℕ) → Edges → ℕ → ℕ → ℕ → ℕ → Type 0
SwapAbove g d K c s u v a b =
    (u + (K * g.n + up (twice_all g d)) + c a < weight c (select s (up_to g.m)) + c b + dn (twice_all g d) + v)

module _ (g : Network) (d : ℕ → ℤ) (K : ℕ) (c : ℕ → ℕ) (off : Shifted g d K c) where
  pub swap-above : (s : Edges) (a b : ℕ) → a ∈ up_to g.m → b ∈ up_to g.m → s a ≡ true → s b ≡ false → Parts g (s ⊖ a ⊕ b)
      → (z : ℤ) (u v : ℕ) → IsDiff z u v → (z <ℤ bound g d (s ⊖ a ⊕ b)) ↔ SwapAbove g d K c s u v a b
  swap-above s a b ma mb sa sb x z u v h =
      let i = bound-above g d K c off (s ⊖ a ⊕ b) x z u v h in
      let w = swapped_weight (up_to g.m) (distinct-up_to g.m) s a b ma mb sa sb c in
      ((λ l. omega (arith, w, i.0 l)), λ l. i.1 (omega (arith, w)))

-- of a 1-tree: two edges may change places exactly where that makes a 1-tree
pub tree_swap : (g : Network) → Valid g → (t : Edges) → OneTree g t → (f h : ℕ) → f ∈ up_to g.m → h ∈ up_to g.m → t f ≡ true → t h ≡ false
    → MaySwap g t f h ↔ OneTree g (t ⊖ f ⊕ h)
tree_swap g vg t o f h mf mh tf th = (
  (λ m. of_parts g vg (t ⊖ f ⊕ h) (may_swap g t (to_parts g vg t o) f h mf mh tf th m)),
  λ x. swap_may g t (to_parts g vg t o) f h mf mh tf th (to_parts g vg (t ⊖ f ⊕ h) x),
)

-- s is a minimal 1-tree
module _ (g : Network) (vg : Valid g) (d : ℕ → ℤ) (K : ℕ) (c : ℕ → ℕ) (off : Shifted g d K c) (s : Edges) (least : Minimal g d s)
    (z : ℤ) (u v : ℕ) (ceiling : IsDiff z u v) where
  -- a swap is above the ceiling as a 1-tree exactly when it is in numbers
  one-swap : (a b : ℕ) → a ∈ up_to g.m → b ∈ up_to g.m → s a ≡ true → s b ≡ false
      → (OneTree g (s ⊖ a ⊕ b) → z <ℤ bound g d (s ⊖ a ⊕ b)) ↔ (MaySwap g s a b → SwapAbove g d K c s u v a b)
  one-swap a b ma mb sa sb = (
    (λ h w. let o = (tree_swap g vg s least.tree a b ma mb sa sb).0 w in (above (to_parts g vg (s ⊖ a ⊕ b) o)).0 (h o)),
    λ h o. (above (to_parts g vg (s ⊖ a ⊕ b) o)).1 (h ((tree_swap g vg s least.tree a b ma mb sa sb).1 o)),
  )
    where
      above : Parts g (s ⊖ a ⊕ b) → (z <ℤ bound g d (s ⊖ a ⊕ b)) ↔ SwapAbove g d K c s u v a b
      above x = swap-above g d K c off s a b ma mb sa sb x z u v ceiling

  module _ (e : ℕ) (me : e ∈ up_to g.m) where
    -- BARRED, in numbers
    pub barred_number : s e ≡ false
        → Barred g d z e ↔ ((f : ℕ) → f ∈ up_to g.m → s f ≡ true → MaySwap g s f e → SwapAbove g d K c s u v f e)
    barred_number se =
        let i = barred_iff g vg d K c off s least z e me se in
        ((λ b f mf sf. (one-swap f e mf me sf se).0 (i.0 b f mf sf)), λ h. i.1 (λ f mf sf. (one-swap f e mf me sf se).1 (h f mf sf)))

    -- FORCED, in numbers
    pub forced_number : s e ≡ true
        → Forced g d z e ↔ ((f : ℕ) → f ∈ up_to g.m → s f ≡ false → MaySwap g s e f → SwapAbove g d K c s u v e f)
    forced_number se =
        let i = forced_iff g vg d K c off s least z e me se in
        ((λ b f mf sf. (one-swap e f me mf se sf).0 (i.0 b f mf sf)), λ h. i.1 (λ f mf sf. (one-swap e f me mf se sf).1 (h f mf sf)))
