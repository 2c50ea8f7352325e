-- The least tree and the rulings over the active vertices are THOSE OF THE REDUCED NETWORK, value for value. So whatever is proved of a network's
-- tree and rulings is so of those over the active vertices.
use Rattle.std.specs.Prelude.{◌≡◌, ◌||◌, ℕ, ℤ}
use Rattle.std.proofs.Math.Path.{refl, ap}
use Rattle.std.proofs.Common.{ap₂, ◌∙◌, inl, inr, true≢false}
use Rattle.std.proofs.Math.Bool.{Bool, true, false, not}
use Rattle.std.proofs.lemmas.Bool.{false≢true}
use mathlib.Core.List.{List, [], ◌∷◌}
use Rattle.std.specs.Int.Signed.{lt_z}
use Rattle.lists.specs.Members.{◌∈◌}
use Rattle.lists.specs.All.{every_of}
use Rattle.lists.specs.Select.{select_in, select_cong}
use Rattle.graph.specs.Network.{Network}
use Rattle.tree_theory.specs.OneTree.{Edges, bound}
use Rattle.tree_theory.specs.Enumeration.{edge_sets, is_one_tree, one_trees, min_from, a_tree, least_of, least_tree, barred_b, forced_b, ruling}
use Rattle.tree_theory.specs.Decide.{test_tree, tree_test}
use Rattle.thinning.specs.Rulings.{same_test}
use Rattle.afloat.specs.Over.{Ashore, multiplier_over, OneTreeOver, bound_over}
use Rattle.afloat.specs.Values.{is_one_tree_over, one_trees_over, tree_over, is_barred_over, is_forced_over, ruling_over}
use Rattle.afloat.specs.Reduced.{reduced, reduced_multiplier, Fit}
use Rattle.afloat.specs.Trees.{tree-bound}
use Rattle.afloat.proofs.Trees.{tree_iff}
use Rattle.afloat.specs.Decided.{test_tree_over, tree_test_over}

-- ---- the least of a list goes by bounds alone

module _ (g h : Network) (d e : ℕ → ℤ) where
  min-same : (best : Edges) (ts : List Edges) → bound g d best ≡ bound h e best → ((t : Edges) → t ∈ ts → bound g d t ≡ bound h e t)
      → (min_from g d best ts ≡ min_from h e best ts) × (bound g d (min_from g d best ts) ≡ bound h e (min_from g d best ts))
  unfolding min_from
  min-same best [] b bs = (refl, b)
  min-same best (t ∷ ts) b bs =
      go (lt_z (bound g d t) (bound g d best)) (lt_z (bound h e t) (bound h e best)) (ap₂ lt_z (bs t (inl refl)) b)
      (min-same t ts (bs t (inl refl)) (λ r i. bs r (inr i))) (min-same best ts b (λ r i. bs r (inr i)))
    where
      pick : Bool → Edges → Edges → Edges
      pick x p q = elim x [ true ↦ p | false ↦ q ]

      Same : Edges → Edges → Type 0
      Same p q = (p ≡ q) × (bound g d p ≡ bound h e p)

      go : (x y : Bool) → x ≡ y → Same (min_from g d t ts) (min_from h e t ts) → Same (min_from g d best ts) (min_from h e best ts)
          → Same (pick x (min_from g d t ts) (min_from g d best ts)) (pick y (min_from h e t ts) (min_from h e best ts))
      go true true e p q = p
      go false false e p q = q
      go true false e p q = absurd (true≢false e)
      go false true e p q = absurd (false≢true e)

  least_same : (ts : List Edges) → ((t : Edges) → t ∈ ts → bound g d t ≡ bound h e t) → least_of g d ts ≡ least_of h e ts
  unfolding least_of
  least_same [] bs = refl
  least_same (t ∷ ts) bs =
      let r = min-same t ts (bs t (inl refl)) (λ u i. bs u (inr i)) in
      ap (λ (z : ℤ). a_tree z (min_from g d t ts)) r.1 ∙ ap (λ (u : Edges). a_tree (bound h e u) u) r.0

every_same : (p q : Edges → Bool) (ts : List Edges) → ((t : Edges) → t ∈ ts → p t ≡ q t) → every_of p ts ≡ every_of q ts
unfolding every_of
every_same p q [] h = refl
every_same p q (t ∷ ts) h = rw (h t (inl refl), every_same p q ts (λ u i. h u (inr i)))

module _ (s : Ashore) (g : Network) (f : Fit s g) where
  -- ---- value for value

  pub test_reduced : (t : Edges) → is_one_tree_over s g t ≡ is_one_tree (reduced s g) t
  test_reduced t =
      same_test _ _
      (λ e. tree_test (reduced s g) t ((tree_iff s g f t).0 (test_tree_over s g t e)))
      (λ e. tree_test_over s g t ((tree_iff s g f t).1 (test_tree (reduced s g) t e)))

  trees_reduced : one_trees_over s g ≡ one_trees (reduced s g)
  unfolding one_trees_over one_trees
  trees_reduced = select_cong (is_one_tree_over s g) (is_one_tree (reduced s g)) (edge_sets g.m) (λ t i. test_reduced t)

  is_tree_over : (t : Edges) → t ∈ one_trees_over s g → OneTreeOver s g t
  unfolding one_trees_over
  is_tree_over t i = test_tree_over s g t (select_in (is_one_tree_over s g) (edge_sets g.m) t i).1

  module _ (d : ℕ → ℤ) where
    abbrev δ : ℕ → ℤ
    δ = reduced_multiplier s g.n d

    listed-bound : (t : Edges) → t ∈ one_trees_over s g → bound_over s g d t ≡ bound (reduced s g) δ t
    listed-bound t i = tree-bound s g f d t (is_tree_over t i)

    -- THE LEAST TREE
    pub tree-reduced : tree_over s g d ≡ least_tree (reduced s g) δ
    unfolding tree_over least_tree
    tree-reduced =
        least_same g (reduced s g) (multiplier_over s d) δ (one_trees_over s g) (λ t i. unfold bound_over in listed-bound t i)
        ∙ ap (least_of (reduced s g) δ) trees_reduced

    pub barred_reduced : (ceiling : ℤ) (k : ℕ) → is_barred_over s g d ceiling k ≡ barred_b (reduced s g) δ ceiling k
    unfolding is_barred_over barred_b
    barred_reduced ceiling k =
        every_same _ _ (one_trees_over s g) (λ t i. ap (λ (z : ℤ). not (t k) || lt_z ceiling z) (listed-bound t i))
        ∙ ap (every_of (λ t. not (t k) || lt_z ceiling (bound (reduced s g) δ t))) trees_reduced

    pub forced_reduced : (ceiling : ℤ) (k : ℕ) → is_forced_over s g d ceiling k ≡ forced_b (reduced s g) δ ceiling k
    unfolding is_forced_over forced_b
    forced_reduced ceiling k =
        every_same _ _ (one_trees_over s g) (λ t i. ap (λ (z : ℤ). t k || lt_z ceiling z) (listed-bound t i))
        ∙ ap (every_of (λ t. t k || lt_z ceiling (bound (reduced s g) δ t))) trees_reduced

    -- THE RULINGS
    pub ruling-reduced : (ceiling : ℤ) (k : ℕ) → ruling_over s g d ceiling k ≡ ruling (reduced s g) δ ceiling k
    unfolding ruling_over ruling
    ruling-reduced ceiling k = rw (barred_reduced ceiling k, forced_reduced ceiling k)
