-- The greedy 1-tree is the least one: of the near edges the required ones and then the lightest, two in all; of the far edges the
-- required ones and then the lightest, each that joins two components. Where this choice is no 1-tree there is none.
use Rattle.std.specs.Prelude.{◌≡◌, ◌⊎◌, true, false, List, ◌++◌, ℕ, ◌+◌, ◌≤◌, ℤ}
use Rattle.std.proofs.Common.{sym, ◌∙◌, inl, inr, true≢false}
use Rattle.std.proofs.Math.Path.{ap}
use native.Mathlib.Omega.{arith}
use Rattle.std.proofs.Math.ListN.{length, length-append}
use Rattle.lists.specs.Bools.{by_cases}
use Rattle.lists.specs.Members.{◌∈◌, in_either, in_right}
use Rattle.lists.specs.Select.{select, select-append, select_full}
use Rattle.lists.specs.Numbers.{up_to}
use Rattle.lists.specs.Weights.{weight}
use Rattle.lists.specs.Same.{Shuffle, shuffle_back, shuffle_in, shuffle_length, shuffle_weight}
use Rattle.graph.specs.Network.{Network}
use Rattle.spanning.specs.Components.{rank, joins, same_rank}
use Rattle.spanning.specs.Choice.{choose, choose_base, choose_full, Desc, Listing, select_listing, select_chosen, Beats}
use Rattle.spanning.specs.FirstTwo.{fewer, fewer-length, few_least}
use Rattle.spanning.specs.Forests.{Forest, forest_base, greedy, greedy-length, greedy_all}
use Rattle.spanning.specs.Trees.{Tree}
use Rattle.spanning.specs.Kruskal.{rank_all, greedy-tree, kruskal}
use Rattle.tree_theory.specs.OneTree.{Edges, OneTree, Least, lacks_first}
use Rattle.tree_theory.specs.Valid.{Valid, required_not, is_excluded, needed, is_near, near, far, near_in, far_in, in_near, in_far}
use Rattle.tree_theory.specs.Optimal.Link.{Parts, to_parts, of_parts, weigh}
use Rattle.tree_theory.specs.Optimal.Bound.{Shifted, bound-le, bound_eq}
use Rattle.tree_theory.specs.Optimal.Weight.{one_weight, one_weight_least}

-- how a list of edges is looked at: the required ones rs first, then the others fs by weight; what is looked at first stands last
pub record Order (g : Network) (w : ℕ → ℕ) (all fs rs : List ℕ) : Type 0 where
  pub listing : Listing all (fs ++ rs)
  pub top : ℕ
  pub desc : Desc w top fs
  pub must : (k : ℕ) → k ∈ rs → needed g k ≡ true
  pub may : (k : ℕ) → k ∈ fs → needed g k ≡ false

-- t is what the greedy choice gives of the near edges, looked at as in l₁, and of the far ones, as in l₂
pub record Chosen (g : Network) (l₁ l₂ : List ℕ) (t : Edges) : Type 0 where
  pub in₁ : (k : ℕ) → k ∈ near g → t k ≡ true → k ∈ choose fewer l₁
  pub of₁ : (k : ℕ) → k ∈ choose fewer l₁ → t k ≡ true
  pub in₂ : (k : ℕ) → k ∈ far g → t k ≡ true → k ∈ greedy g.a g.b l₂
  pub of₂ : (k : ℕ) → k ∈ greedy g.a g.b l₂ → t k ≡ true
  pub none : (k : ℕ) → k ∈ up_to g.m → is_excluded (g.mark k) ≡ true → t k ≡ false

-- a required edge in the order looked at is one of those that must be in
order_must : (g : Network) (w : ℕ → ℕ) (all fs rs : List ℕ) → Order g w all fs rs → (k : ℕ) → k ∈ all → needed g k ≡ true → k ∈ rs
order_must g w all fs rs o k m r = go (in_either k fs rs (o.listing.there k m))
  where
    go : (k ∈ fs) ⊎ (k ∈ rs) → k ∈ rs
    go (inl i) = absurd (true≢false (sym r ∙ o.may k i))
    go (inr i) = i

module _ (g : Network) (w : ℕ → ℕ) (f₁ r₁ f₂ r₂ : List ℕ) (o₁ : Order g w (near g) f₁ r₁) (o₂ : Order g w (far g) f₂ r₂)
    (t : Edges) (ch : Chosen g (f₁ ++ r₁) (f₂ ++ r₂) t) where
  tree : Tree g.a g.b (far g) t
  tree = greedy-tree g.a g.b (far g) (f₂ ++ r₂) o₂.listing t ch.in₂ ch.of₂

  few : Shuffle (select t (near g)) (choose fewer (f₁ ++ r₁))
  few = select_chosen (near g) (f₁ ++ r₁) o₁.listing t fewer ch.in₁ ch.of₁

  many : Shuffle (select t (far g)) (greedy g.a g.b (f₂ ++ r₂))
  unfolding greedy
  many = select_chosen (far g) (f₂ ++ r₂) o₂.listing t (joins g.a g.b) ch.in₂ ch.of₂

  -- what it weighs
  pub chosen_weight : (c : ℕ → ℕ) → weight c (select t (up_to g.m))
      ≡ weight c (choose fewer (f₁ ++ r₁)) + weight c (greedy g.a g.b (f₂ ++ r₂))
  chosen_weight c = omega (arith, weigh g t ch.none c, shuffle_weight c few, shuffle_weight c many)

  -- where the choice has all that must be in, it has every required edge
  kept : ((k : ℕ) → k ∈ r₁ → k ∈ choose fewer (f₁ ++ r₁)) → ((k : ℕ) → k ∈ r₂ → k ∈ greedy g.a g.b (f₂ ++ r₂))
      → (k : ℕ) → k ∈ up_to g.m → needed g k ≡ true → t k ≡ true
  kept k₁ k₂ k m r =
      by_cases (is_near g k)
      (λ h. ch.of₁ k (k₁ k (order_must g w (near g) f₁ r₁ o₁ k (in_near g k m h (required_not (g.mark k) r)) r)))
      (λ h. ch.of₂ k (k₂ k (order_must g w (far g) f₂ r₂ o₂ k (in_far g k m h (required_not (g.mark k) r)) r)))

  -- where there is a 1-tree, the choice is one, and weighs no more
  pub chosen_parts : (s : Edges) → Parts g s → Parts g t × (weight w (select t (up_to g.m)) ≤ weight w (select s (up_to g.m)))
  chosen_parts s os = (
    record {
      tree = tree;
      span = os.span;
      two = shuffle_length few ∙ b₁.size ∙ os.two;
      keeps = kept b₁.base b₂.base;
      avoids = ch.none;
    },
    omega (
      arith,
      weigh g t ch.none w,
      weigh g s os.avoids w,
      b₁.lighter,
      b₂.lighter,
      shuffle_weight w few,
      shuffle_weight w many,
    ),
  )
    where
      b₁ : Beats w (near g) r₁ (choose fewer (f₁ ++ r₁)) s
      b₁ =
          few_least w (near g) f₁ r₁ o₁.listing o₁.top o₁.desc s os.two
          (λ k m. os.keeps k (near_in g k (o₁.listing.back k (in_right k f₁ r₁ m))).0 (o₁.must k m))

      b₂ : Beats w (far g) r₂ (greedy g.a g.b (f₂ ++ r₂)) s
      b₂ =
          kruskal g.a g.b w (far g) f₂ r₂ o₂.listing o₂.top o₂.desc s os.tree
          (λ k m. os.keeps k (far_in g k (o₂.listing.back k (in_right k f₂ r₂ m))).0 (o₂.must k m))

  module _ (vg : Valid g) where
    -- what the choice must show to be a 1-tree: enough edges, and of those that must be in no three at vertex 1 and no circle
    pub chosen_tree : length (greedy g.a g.b (f₂ ++ r₂)) + 2 ≡ g.n → length (choose fewer (f₁ ++ r₁)) ≡ 2
        → length r₁ ≤ 2 → Forest g.a g.b r₂ → OneTree g t
    unfolding greedy
    chosen_tree size two short forest =
        of_parts g vg t (record { tree = tree; span = span; two = shuffle_length few ∙ two; keeps = kept base₁ base₂; avoids = ch.none })
      where
        span : rank g.a g.b (far g) + 2 ≡ g.n
        span = omega (arith, size, greedy-length g.a g.b (f₂ ++ r₂), rank_all g.a g.b (far g) (f₂ ++ r₂) o₂.listing)

        base₁ : (k : ℕ) → k ∈ r₁ → k ∈ choose fewer (f₁ ++ r₁)
        base₁ k m = choose_base fewer f₁ r₁ k (rw (choose_full fewer r₁ (omega (arith, fewer-length r₁))) m)

        base₂ : (k : ℕ) → k ∈ r₂ → k ∈ choose (joins g.a g.b) (f₂ ++ r₂)
        base₂ k m = choose_base (joins g.a g.b) f₂ r₂ k (rw (greedy_all g.a g.b r₂ forest) m)

    -- a 1-tree shows it
    pub chosen_must : OneTree g t → (length r₁ ≤ 2) × Forest g.a g.b r₂
    unfolding Forest
    chosen_must o = (
      omega (
        arith,
        shuffle_length (select_listing (near g) (f₁ ++ r₁) o₁.listing t),
        (to_parts g vg t o).two,
        simp length-append at (ap length (select-append t f₁ r₁)),
        ap length all₁,
      ),
      rw all₂ at (forest_base g.a g.b t f₂ r₂ forest),
    )
      where
        all₁ : select t r₁ ≡ r₁
        all₁ = select_full t r₁
            (λ k m. (to_parts g vg t o).keeps k (near_in g k (o₁.listing.back k (in_right k f₁ r₁ m))).0 (o₁.must k m))

        all₂ : select t r₂ ≡ r₂
        all₂ = select_full t r₂
            (λ k m. (to_parts g vg t o).keeps k (far_in g k (o₂.listing.back k (in_right k f₂ r₂ m))).0 (o₂.must k m))

        same : Shuffle (select t (f₂ ++ r₂)) (select t (far g))
        same = select_listing (far g) (f₂ ++ r₂) o₂.listing t

        forest : Forest g.a g.b (select t (f₂ ++ r₂))
        forest =
            same_rank g.a g.b (select t (f₂ ++ r₂)) (select t (far g)) (shuffle_in same) (shuffle_in (shuffle_back same))
            ∙ tree.forest ∙ sym (shuffle_length same)

    -- where it is none, there is none
    pub chosen_none : ¬ (OneTree g t) → (s : Edges) → ¬ (OneTree g s)
    chosen_none none s o = none (of_parts g vg t (chosen_parts s (to_parts g vg s o)).0)

-- THE MINIMUM 1-TREE: where there is a 1-tree at all, the greedy choice by charge and number is the least
pub chosen_least : (g : Network) (d : ℕ → ℤ) (K : ℕ) (c : ℕ → ℕ) → Shifted g d K c → Valid g → (f₁ r₁ f₂ r₂ : List ℕ)
    → Order g (one_weight g.m c) (near g) f₁ r₁ → Order g (one_weight g.m c) (far g) f₂ r₂
    → (t : Edges) → Chosen g (f₁ ++ r₁) (f₂ ++ r₂) t → (s₀ : Edges) → OneTree g s₀ → Least g d t
chosen_least g d K c off vg f₁ r₁ f₂ r₂ o₁ o₂ t ch s₀ os₀ = record {
  tree = of_parts g vg t pt;
  least = λ s os. bound-le g d K c off t s pt (to_parts g vg s os) (lighter s os).0;
  first = λ s os e. (lighter s os).1 (bound_eq g d K c off t s pt (to_parts g vg s os) e);
}
  where
    pt : Parts g t
    pt = (chosen_parts g (one_weight g.m c) f₁ r₁ f₂ r₂ o₁ o₂ t ch s₀ (to_parts g vg s₀ os₀)).0

    lighter : (s : Edges) → OneTree g s → (weight c (select t (up_to g.m)) ≤ weight c (select s (up_to g.m)))
        × (weight c (select s (up_to g.m)) ≡ weight c (select t (up_to g.m)) → lacks_first g.m s t ≡ false)
    lighter s os =
        one_weight_least g.m c t s (chosen_parts g (one_weight g.m c) f₁ r₁ f₂ r₂ o₁ o₂ t ch s (to_parts g vg s os)).1
