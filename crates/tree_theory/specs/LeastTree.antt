-- The least tree by enumeration is the least 1-tree of the definitions: the sets are listed in the order in which they come first, so
-- the first of the least bound is it. A network is infeasible exactly when this tree is missing or its bound is above the ceiling.
use Rattle.std.specs.Prelude.{◌≡◌, ◌↔◌, ◌⊎◌, Bool, ℕ, zero, suc, ℤ, ◌≤ℤ◌, ◌<ℤ◌}
use Rattle.std.proofs.Math.Path.{refl, sym}
use Rattle.std.proofs.Common.{ap, ◌∙◌}
use Rattle.std.proofs.Math.Logic.{inl, inr}
use Rattle.std.proofs.Math.Bool.{true, false}
use mathlib.Core.List.{List, [], ◌∷◌}
use Rattle.std.specs.Int.Signed.{lt_z, ≤ℤ_refl, <ℤ-≤ℤ_trans}
use Rattle.lists.specs.Members.{◌∈◌}
use Rattle.integers.specs.Order.{le_trans, lt-le, le_lt_clash, test_lt, test_not_lt}
use Rattle.graph.specs.Network.{Network}
use Rattle.tree_theory.specs.OneTree.{Edges, OneTree, Least, Infeasible, bound, lacks_first, unless}
use Rattle.tree_theory.specs.Enumeration.{edge_sets, is_one_tree, one_trees, min_from, Tree, no_tree, a_tree, least_of, least_tree}
use Rattle.tree_theory.specs.Agree.{Agree, bound_agree, lacks_agree, least_unique}
use Rattle.tree_theory.specs.Subsets.{Sorted, sorted_select, sorted_edge_sets}
use Rattle.tree_theory.specs.Decide.{listed, is_tree}

lacks_self : (m : ℕ) (t : Edges) → lacks_first m t t ≡ false
unfolding lacks_first
lacks_self zero t = refl
lacks_self (suc m) t = go (t (suc m)) (lacks_self m t)
  where
    go : (b : Bool) → lacks_first m t t ≡ false → unless b b (lacks_first m t t) ≡ false
    go true h = h
    go false h = h

module _ (g : Network) (d : ℕ → ℤ) where
  -- ---- the first of the least bound

  -- s has no smaller bound than r, nor the same and comes first
  Before : Edges → Edges → Type 0
  Before r s = (bound g d r ≤ℤ bound g d s) × (bound g d s ≤ℤ bound g d r → lacks_first g.m s r ≡ false)

  before_self : (r s : Edges) → s ≡ r → Before r s
  unfolding Before
  before_self r s e = rw e (≤ℤ_refl _, λ h. lacks_self g.m r)

  before-later : (r s : Edges) → bound g d r ≤ℤ bound g d s → lacks_first g.m s r ≡ false → Before r s
  unfolding Before
  before-later r s h l = (h, λ k. l)

  better : (t best s : Edges) → bound g d t <ℤ bound g d best → Before best s → Before t s
  unfolding Before
  better t best s h b = (le_trans _ _ _ (lt-le _ _ h) b.0, λ k. absurd (le_lt_clash _ _ (le_trans _ _ _ b.0 k) h))

  min-before : (best : Edges) (ts : List Edges) → ((y : Edges) → y ∈ ts → lacks_first g.m y best ≡ false) → Sorted g.m ts
      → (s : Edges) → Before best s ⊎ (s ∈ ts) → Before (min_from g d best ts) s
  unfolding min_from
  min-before best [] a o s (inl h) = h
  min-before best [] a o s (inr h) = absurd h
  min-before best (t ∷ ts) a o s h =
      go (lt_z (bound g d t) (bound g d best)) refl
      (min-before t ts o.0 o.1 s) (min-before best ts (λ y i. a y (inr i)) o.1 s)
    where
      go : (b : Bool) → lt_z (bound g d t) (bound g d best) ≡ b
          → (Before t s ⊎ (s ∈ ts) → Before (min_from g d t ts) s) → (Before best s ⊎ (s ∈ ts) → Before (min_from g d best ts) s)
          → Before (elim b as (λ x. Edges) [ true ↦ min_from g d t ts | false ↦ min_from g d best ts ]) s
      go true e u v = u (pick h)
        where
          pick : Before best s ⊎ ((s ≡ t) ⊎ (s ∈ ts)) → Before t s ⊎ (s ∈ ts)
          pick (inl i) = inl (better t best s (test_lt _ _ e) i)
          pick (inr (inl i)) = inl (before_self t s i)
          pick (inr (inr i)) = inr i
      go false e u v = v (pick h)
        where
          pick : Before best s ⊎ ((s ≡ t) ⊎ (s ∈ ts)) → Before best s ⊎ (s ∈ ts)
          pick (inl i) = inl i
          pick (inr (inl i)) = inl (rw i (before-later best t (test_not_lt _ _ e) (a t (inl refl))))
          pick (inr (inr i)) = inr i

  min_in : (best : Edges) (ts all : List Edges) → best ∈ all → ((s : Edges) → s ∈ ts → s ∈ all) → min_from g d best ts ∈ all
  unfolding min_from
  min_in best [] all i h = i
  min_in best (t ∷ ts) all i h =
      go (lt_z (bound g d t) (bound g d best))
      (min_in t ts all (h t (inl refl)) (λ s j. h s (inr j))) (min_in best ts all i (λ s j. h s (inr j)))
    where
      go : (b : Bool) → min_from g d t ts ∈ all → min_from g d best ts ∈ all
          → (elim b as (λ x. Edges) [ true ↦ min_from g d t ts | false ↦ min_from g d best ts ]) ∈ all
      go true u v = u
      go false u v = v

  min_least : (t : Edges) (ts : List Edges) → one_trees g ≡ t ∷ ts → Least g d (min_from g d t ts)
  unfolding one_trees Before
  min_least t ts e = record {
    tree = is_tree g r (rw e (min_in t ts (t ∷ ts) (inl refl) (λ s i. inr i)));
    least = λ s o. let l = listed g s o in rw (bound_agree g l.0 s l.2 d) at (before l.0 l.1).0;
    first = λ s o f.
        let l = listed g s o in
        sym (lacks_agree g.m l.0 s r l.2) ∙ (before l.0 l.1).1 (rw (bound_agree g l.0 s l.2 d, f) (≤ℤ_refl _));
  }
    where
      r : Edges
      r = min_from g d t ts

      order : Sorted g.m (t ∷ ts)
      order = rw e at (sorted_select g.m (is_one_tree g) (edge_sets g.m) (sorted_edge_sets g.m))

      before : (s : Edges) → s ∈ one_trees g → Before (min_from g d t ts) s
      before s i = min-before t ts order.0 order.1 s (pick (rw e at i))
        where
          pick : (s ≡ t) ⊎ (s ∈ ts) → Before t s ⊎ (s ∈ ts)
          pick (inl j) = inl (before_self t s j)
          pick (inr j) = inr j

  -- ---- the tree

  -- what a tree is, to be right
  abbrev pub Right : Tree → Type 0
  Right no_tree = (s : Edges) → ¬ OneTree g s
  Right (a_tree b t) = (b ≡ bound g d t) × Least g d t

  -- THE LEAST TREE BY ENUMERATION is the least 1-tree, or there is none
  pub tree_right : Right (least_tree g d)
  unfolding least_tree least_of
  tree_right = go (one_trees g) refl
    where
      go : (ts : List Edges) → one_trees g ≡ ts → Right (least_of g d ts)
      go [] e = λ s o. let l = listed g s o in rw e at l.1
      go (t ∷ ts) e = (refl, min_least t ts e)

  -- so a program has the tree once it has a least 1-tree, or knows that there is none
  pub tree_found : (t : Edges) → Least g d t → (r : Edges) × (least_tree g d ≡ a_tree (bound g d t) r) × Agree g.m r t
  tree_found t l = go (least_tree g d) refl tree_right
    where
      go : (x : Tree) → least_tree g d ≡ x → Right x → (r : Edges) × (least_tree g d ≡ a_tree (bound g d t) r) × Agree g.m r t
      go no_tree e h = absurd (h t l.tree)
      go (a_tree b r) e h = (r, e ∙ ap (λ (z : ℤ). a_tree z r) (h.0 ∙ bound_agree g r t same d), same)
        where
          same : Agree g.m r t
          same = least_unique g d r t h.1 l

  pub tree_missing : ((s : Edges) → ¬ OneTree g s) → least_tree g d ≡ no_tree
  tree_missing none = go (least_tree g d) refl tree_right
    where
      go : (x : Tree) → least_tree g d ≡ x → Right x → least_tree g d ≡ no_tree
      go no_tree e h = e
      go (a_tree b r) e h = absurd (none r h.1.tree)

  -- "A sea is called dead exactly when that tree is missing or its bound is above the ceiling."
  abbrev pub Above : ℤ → Tree → Type 0
  Above ceiling no_tree = Unit {0}
  Above ceiling (a_tree b t) = ceiling <ℤ b

  pub infeasible_tree : (ceiling : ℤ) → Infeasible g d ceiling ↔ Above ceiling (least_tree g d)
  unfolding Infeasible
  infeasible_tree ceiling = go (least_tree g d) tree_right
    where
      go : (x : Tree) → Right x → ((t : Edges) → OneTree g t → ceiling <ℤ bound g d t) ↔ Above ceiling x
      go no_tree h = ((λ i. tt), λ i t o. absurd (h t o))
      go (a_tree b r) h = ((λ i. rw h.0 (i r h.1.tree)), λ i t o. <ℤ-≤ℤ_trans (rw h.0 at i) (h.1.least t o))
