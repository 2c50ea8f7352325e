-- One swap suffices. Of two 1-trees, one with an edge and one without, an edge of the other may change places with it, and both stay
-- 1-trees. So an edge outside a minimal 1-tree is barred exactly when every swap that brings it in is above the ceiling, and an edge of
-- it is forced exactly when every swap that takes it out is. Which of several minimal 1-trees it is does not matter.
use Rattle.std.specs.Prelude.{◌≡◌, ◌↔◌, true, false, ℕ, ◌≤◌, length, ℤ, ◌≤ℤ◌, ◌<ℤ◌}
use Rattle.std.proofs.Common.{sym, ◌∙◌, arith}
use Rattle.std.proofs.Math.Path.{ap}
use Rattle.std.proofs.Math.Bool.{true≢false}
use Rattle.std.specs.Int.Signed.{<ℤ-≤ℤ_trans}
use Rattle.lists.specs.Bools.{by_cases}
use Rattle.lists.specs.Members.{◌∈◌}
use Rattle.lists.specs.Select.{select}
use Rattle.lists.specs.Numbers.{up_to, distinct-up_to}
use Rattle.lists.specs.Weights.{weight}
use Rattle.lists.specs.Sets.{◌⊕◌, ◌⊖◌, plus_self, plus_old, plus_other, minus_self, minus_other, minus_false, swapped_length}
use Rattle.lists.specs.Sets.{swapped_weight, unmoved, partner}
use Rattle.graph.specs.Network.{Network}
use Rattle.spanning.specs.Trees.{Tree}
use Rattle.spanning.specs.Exchange.{Traded, trade}
use Rattle.tree_theory.specs.OneTree.{Edges, OneTree, Least, bound, Barred, Forced}
use Rattle.tree_theory.specs.Valid.{Valid, is_excluded, needed, is_near, near, far, distinct-near, distinct-far, near_in, far_in}
use Rattle.tree_theory.specs.Valid.{in_near, in_far, near-not-far}
use Rattle.tree_theory.specs.Optimal.Link.{Parts, to_parts, of_parts, in_allowed, out_loose}
use Rattle.tree_theory.specs.Optimal.Bound.{Shifted, bound-le, le-bound}

-- ---- b for a in a 1-tree

module _ (g : Network) (s : Edges) (o : Parts g s) (a b : ℕ) (loose : needed g a ≡ false) (allowed : is_excluded (g.mark b) ≡ false) where
  keeps : (k : ℕ) → k ∈ up_to g.m → needed g k ≡ true → (s ⊖ a ⊕ b) k ≡ true
  keeps k m r = plus_old (s ⊖ a) b k (minus_other s a k (λ f. true≢false (sym r ∙ ap (needed g) f ∙ loose)) ∙ o.keeps k m r)

  avoids : (k : ℕ) → k ∈ up_to g.m → is_excluded (g.mark k) ≡ true → (s ⊖ a ⊕ b) k ≡ false
  avoids k m x =
      plus_other (s ⊖ a) b k (λ f. true≢false (sym x ∙ ap (λ (j : ℕ). is_excluded (g.mark j)) f ∙ allowed))
      ∙ minus_false s a k (o.avoids k m x)

  pub swap-far : a ∈ far g → b ∈ far g → Tree g.a g.b (far g) (s ⊖ a ⊕ b) → Parts g (s ⊖ a ⊕ b)
  swap-far ma mb t = record {
    tree = t;
    span = o.span;
    two = ap length (unmoved (near g) s a b (λ i. near-not-far g a i ma) (λ i. near-not-far g b i mb)) ∙ o.two;
    keeps = keeps;
    avoids = avoids;
  }

  pub swap-near : a ∈ near g → b ∈ near g → s a ≡ true → s b ≡ false → Parts g (s ⊖ a ⊕ b)
  swap-near ma mb ha hb = record {
    tree = record { forest = rw still o.tree.forest; size = ap length still ∙ o.tree.size };
    span = o.span;
    two = swapped_length (near g) (distinct-near g) s a b ma mb ha hb ∙ o.two;
    keeps = keeps;
    avoids = avoids;
  }
    where
      still : select (s ⊖ a ⊕ b) (far g) ≡ select s (far g)
      still = unmoved (far g) s a b (near-not-far g a ma) (near-not-far g b mb)

-- ---- symmetric exchange

-- e is in the 1-tree t and not in s; then some f is in s and not in t, and both stay 1-trees where e and f change places
pub record Exchanged (g : Network) (s t : Edges) (e : ℕ) : Type 0 where
  pub f : ℕ
  pub listed : f ∈ up_to g.m
  pub mine : s f ≡ true
  pub other : t f ≡ false
  pub one : Parts g (s ⊖ f ⊕ e)
  pub one' : Parts g (t ⊖ e ⊕ f)

module _ (g : Network) (s t : Edges) (os : Parts g s) (ot : Parts g t) (e : ℕ) (me : e ∈ up_to g.m) (se : s e ≡ false)
    (te : t e ≡ true) where
  allowed : is_excluded (g.mark e) ≡ false
  allowed = in_allowed g t ot e me te

  loose : needed g e ≡ false
  loose = out_loose g s os e me se

  -- at vertex 1, where each has two edges
  exchanged_near : is_near g e ≡ true → Exchanged g s t e
  exchanged_near h = build (partner (near g) (distinct-near g) s t (os.two ∙ sym ot.two) e en se te)
    where
      en : e ∈ near g
      en = in_near g e me h allowed

      build : (f : ℕ) × (f ∈ near g) × (s f ≡ true) × (t f ≡ false) → Exchanged g s t e
      build r =
          let i = near_in g r.0 r.1 in
          record {
            f = r.0;
            listed = i.0;
            mine = r.2;
            other = r.3;
            one = swap-near g s os r.0 e (out_loose g t ot r.0 i.0 r.3) allowed r.1 en r.2 se;
            one' = swap-near g t ot e r.0 loose i.2 en r.1 te r.3;
          }

  -- elsewhere, by exchange in trees
  exchanged_far : is_near g e ≡ false → Exchanged g s t e
  exchanged_far h = build (trade g.a g.b (far g) (distinct-far g) s t e os.tree ot.tree ef se te)
    where
      ef : e ∈ far g
      ef = in_far g e me h allowed

      build : Traded g.a g.b (far g) s t e → Exchanged g s t e
      build r =
          let i = far_in g r.g r.listed in
          record {
            f = r.g;
            listed = i.0;
            mine = r.mine;
            other = r.other;
            one = swap-far g s os r.g e (out_loose g t ot r.g i.0 r.other) allowed r.listed ef r.tree;
            one' = swap-far g t ot e r.g loose i.2 ef r.listed r.tree';
          }

  pub exchanged : Exchanged g s t e
  exchanged = by_cases (is_near g e) exchanged_near exchanged_far

-- ---- one swap of a minimal 1-tree suffices

-- none has a smaller bound; the least 1-tree is one such, and the first
pub record Minimal (g : Network) (d : ℕ → ℤ) (t : Edges) : Type 0 where
  pub tree : OneTree g t
  pub least : (s : Edges) → OneTree g s → bound g d t ≤ℤ bound g d s

pub least_minimal : {g : Network} {d : ℕ → ℤ} {t : Edges} → Least g d t → Minimal g d t
least_minimal l = record { tree = l.tree; least = l.least }

-- r is a 1-tree, and its bound no greater than t's
abbrev NoWorse : Network → (ℕ → ℤ) → Edges → Edges → Type 0
NoWorse g d r t = OneTree g r × (bound g d r ≤ℤ bound g d t)

module _ (g : Network) (vg : Valid g) (d : ℕ → ℤ) (K : ℕ) (c : ℕ → ℕ) (off : Shifted g d K c) (s : Edges) (least : Minimal g d s) where
  -- b for a in s, where a for b in t makes a 1-tree too
  no_worse : (t : Edges) → Parts g t → (a b : ℕ) → a ∈ up_to g.m → b ∈ up_to g.m → s a ≡ true → s b ≡ false → t b ≡ true → t a ≡ false
      → Parts g (s ⊖ a ⊕ b) → Parts g (t ⊖ b ⊕ a) → NoWorse g d (s ⊖ a ⊕ b) t
  no_worse t ot a b ma mb sa sb tb ta one one' = (of_parts g vg (s ⊖ a ⊕ b) one, bound-le g d K c off (s ⊖ a ⊕ b) t one ot lighter)
    where
      lighter : weight c (select (s ⊖ a ⊕ b) (up_to g.m)) ≤ weight c (select t (up_to g.m))
      lighter =
          omega (
            arith,
            le-bound g d K c off s (t ⊖ b ⊕ a) (to_parts g vg s least.tree) one' (least.least (t ⊖ b ⊕ a) (of_parts g vg (t ⊖ b ⊕ a) one')),
            swapped_weight (up_to g.m) (distinct-up_to g.m) s a b ma mb sa sb c,
            swapped_weight (up_to g.m) (distinct-up_to g.m) t b a mb ma tb ta c,
          )

  -- any 1-tree t with e is no better than s with e put in for some f of s
  pub with_edge_lem : (e : ℕ) → e ∈ up_to g.m → s e ≡ false → (t : Edges) → OneTree g t → t e ≡ true
      → (f : ℕ) × (f ∈ up_to g.m) × (s f ≡ true) × NoWorse g d (s ⊖ f ⊕ e) t
  with_edge_lem e me se t o te =
      let ot : Parts g t = to_parts g vg t o in
      let x : Exchanged g s t e = exchanged g s t (to_parts g vg s least.tree) ot e me se te in
      (x.f, x.listed, x.mine, no_worse t ot x.f e x.listed me x.mine se te x.other x.one x.one')

  -- any 1-tree t without e is no better than s with some f put in for e
  pub without_edge : (e : ℕ) → e ∈ up_to g.m → s e ≡ true → (t : Edges) → OneTree g t → t e ≡ false
      → (f : ℕ) × (f ∈ up_to g.m) × (s f ≡ false) × NoWorse g d (s ⊖ e ⊕ f) t
  without_edge e me se t o te =
      let ot : Parts g t = to_parts g vg t o in
      let x : Exchanged g t s e = exchanged g t s ot (to_parts g vg s least.tree) e me te se in
      (x.f, x.listed, x.other, no_worse t ot e x.f me x.listed se x.other x.mine te x.one' x.one)

  -- BARRED, outside the minimal 1-tree: no swap that brings the edge in stays within the ceiling
  pub barred_iff : (ceiling : ℤ) (e : ℕ) → e ∈ up_to g.m → s e ≡ false
      → Barred g d ceiling e
      ↔ ((f : ℕ) → f ∈ up_to g.m → s f ≡ true → OneTree g (s ⊖ f ⊕ e) → ceiling <ℤ bound g d (s ⊖ f ⊕ e))
  unfolding Barred
  barred_iff ceiling e me se = (
    (λ b f mf sf o. b (s ⊖ f ⊕ e) o (plus_self (s ⊖ f) e)),
    λ h t o te. let r = with_edge_lem e me se t o te in <ℤ-≤ℤ_trans (h r.0 r.1 r.2 r.3.0) r.3.1,
  )

  -- FORCED, in the minimal 1-tree: no swap that takes the edge out stays within the ceiling
  pub forced_iff : (ceiling : ℤ) (e : ℕ) → e ∈ up_to g.m → s e ≡ true
      → Forced g d ceiling e
      ↔ ((f : ℕ) → f ∈ up_to g.m → s f ≡ false → OneTree g (s ⊖ e ⊕ f) → ceiling <ℤ bound g d (s ⊖ e ⊕ f))
  unfolding Forced
  forced_iff ceiling e me se = (
    (λ b f mf sf o. b (s ⊖ e ⊕ f) o (plus_other (s ⊖ e) f e (λ i. true≢false (sym se ∙ ap s i ∙ sf)) ∙ minus_self s e)),
    λ h t o te. let r = without_edge e me se t o te in <ℤ-≤ℤ_trans (h r.0 r.1 r.2 r.3.0) r.3.1,
  )

  -- an edge of the minimal 1-tree is barred, and one outside it forced, exactly when the ceiling is below the least bound
  pub barred_in : (ceiling : ℤ) (e : ℕ) → s e ≡ true → Barred g d ceiling e ↔ (ceiling <ℤ bound g d s)
  unfolding Barred
  barred_in ceiling e se = ((λ b. b s least.tree se), λ h t o te. <ℤ-≤ℤ_trans h (least.least t o))

  pub forced_out : (ceiling : ℤ) (e : ℕ) → s e ≡ false → Forced g d ceiling e ↔ (ceiling <ℤ bound g d s)
  unfolding Forced
  forced_out ceiling e se = ((λ b. b s least.tree se), λ h t o te. <ℤ-≤ℤ_trans h (least.least t o))
