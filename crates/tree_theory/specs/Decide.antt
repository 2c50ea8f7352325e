-- Going through all sets decides: the test for a 1-tree is right, every 1-tree is listed as far as the edges go, and so the tests over
-- the list are right about all 1-trees.
use Rattle.std.specs.Prelude.{◌≡◌, ◌↔◌, ◌⊎◌, Bool, ◌||◌, List, [], ◌∷◌, ℕ, ◌+◌, eqb, ℤ, ◌<ℤ◌}
use Rattle.std.proofs.Math.Path.{refl, ap}
use Rattle.std.proofs.Common.{sym, ◌∙◌, inl, inr, true≢false}
use Rattle.std.proofs.Math.Bool.{true, false, not}
use Rattle.std.proofs.Math.ListN.{length}
use Rattle.std.specs.Int.Signed.{lt_z}
use borrow.Author.Tests.{eqb-true, eq-eqb, not-true}
use Rattle.std.proofs.lemmas.Bool.{not-false}
use Rattle.lists.specs.Bools.{and_both, T_true, true_T}
use Rattle.lists.specs.Members.{◌∈◌}
use Rattle.lists.specs.All.{every_of, every_of_in, in_every_of}
use Rattle.lists.specs.Select.{select_in, in_select}
use Rattle.lists.specs.Numbers.{up_to}
use Rattle.graph.specs.Network.{Network, Mark, free, required, excluded}
use Rattle.spanning.specs.Walks.{label, label-walk}
use Rattle.tree_theory.specs.OneTree.{Edges, OneTree, Barred, Forced, others, away, at_one, bound}
use Rattle.tree_theory.specs.Enumeration.{edge_sets, marked, alike, is_one_tree, one_trees, barred_b, forced_b}
use Rattle.tree_theory.specs.Agree.{Agree, tree_agree, bound_agree}
use Rattle.tree_theory.specs.Subsets.{covers}

-- ---- the test for a 1-tree

pub marked_is : (x : Mark) (b : Bool) → marked x b ≡ true → (x ≡ required → b ≡ true) × (x ≡ excluded → b ≡ false)
marked_is free b h = ((λ e. cc), λ e. cc)
marked_is required b h = ((λ e. h), λ e. cc)
marked_is excluded b h = ((λ e. cc), λ e. not-true b h)

pub is_marked : (x : Mark) (b : Bool) → (x ≡ required → b ≡ true) → (x ≡ excluded → b ≡ false) → marked x b ≡ true
is_marked free b h k = refl
is_marked required b h k = h refl
is_marked excluded b h k = ap not (k refl)

pub alike_same : (L : ℕ → ℕ) (vs : List ℕ) → alike L vs ≡ true → (u v : ℕ) → u ∈ vs → v ∈ vs → L u ≡ L v
unfolding alike
alike_same L [] h u v i j = absurd i
alike_same L (w ∷ vs) h u v i j = to u i ∙ sym (to v j)
  where
    to : (x : ℕ) → (x ≡ w) ⊎ (x ∈ vs) → L x ≡ L w
    to x (inl e) = ap L e
    to x (inr m) = eqb-true (L x) (L w) (every_of_in (λ y. eqb (L y) (L w)) vs h x m)

pub same_alike : (L : ℕ → ℕ) (vs : List ℕ) → ((u v : ℕ) → u ∈ vs → v ∈ vs → L u ≡ L v) → alike L vs ≡ true
unfolding alike
same_alike L [] h = refl
same_alike L (w ∷ vs) h = in_every_of (λ y. eqb (L y) (L w)) vs (λ u m. eq-eqb (L u) (L w) (h u w (inr m) (inl refl)))

-- what the four parts of the test say
record Passes (g : Network) (t : Edges) : Type 0 where
  two : eqb (length (at_one g t)) 2 ≡ true
  rest : eqb (2 + length (away g t)) g.n ≡ true
  marks : every_of (λ k. marked (g.mark k) (t k)) (up_to g.m) ≡ true
  one : alike (label g.a g.b (away g t)) (others g) ≡ true

module _ (g : Network) (t : Edges) where
  passes : is_one_tree g t ≡ true → Passes g t
  unfolding is_one_tree
  passes h =
      let x = and_both _ (alike (label g.a g.b (away g t)) (others g)) h in
      let y = and_both _ (every_of (λ k. marked (g.mark k) (t k)) (up_to g.m)) x.0 in
      let z = and_both (eqb (length (at_one g t)) 2) (eqb (2 + length (away g t)) g.n) y.0 in
      record { two = z.0; rest = z.1; marks = y.1; one = x.1 }

  pub test_tree : is_one_tree g t ≡ true → OneTree g t
  test_tree h = record {
    two = eqb-true _ _ (passes h).two;
    rest = eqb-true _ _ (passes h).rest;
    joined = λ u v i j. (label-walk g.a g.b (away g t) u v).0 (alike_same _ (others g) (passes h).one u v i j);
    keeps = λ k m r. (marked_is (g.mark k) (t k) (mark k m)).0 r;
    avoids = λ k m r. (marked_is (g.mark k) (t k) (mark k m)).1 r;
  }
    where
      mark : (k : ℕ) → k ∈ up_to g.m → marked (g.mark k) (t k) ≡ true
      mark k m = every_of_in (λ j. marked (g.mark j) (t j)) (up_to g.m) (passes h).marks k m

  pub tree_test : OneTree g t → is_one_tree g t ≡ true
  unfolding is_one_tree
  tree_test o =
      rw (
        eq-eqb (length (at_one g t)) 2 o.two,
        eq-eqb (2 + length (away g t)) g.n o.rest,
        in_every_of (λ k. marked (g.mark k) (t k)) (up_to g.m) (λ k m. is_marked (g.mark k) (t k) (o.keeps k m) (o.avoids k m)),
      )
      (same_alike (label g.a g.b (away g t)) (others g) one)
    where
      one : (u v : ℕ) → u ∈ others g → v ∈ others g → label g.a g.b (away g t) u ≡ label g.a g.b (away g t) v
      one u v i j = (label-walk g.a g.b (away g t) u v).1 (o.joined u v i j)

-- ---- the tests over the list

or_is : (x y : Bool) → (x || y ≡ true) ↔ (x ≡ false → y ≡ true)
or_is true y = ((λ h e. absurd (true≢false e)), λ h. refl)
or_is false y = ((λ h e. h), λ h. h refl)

module _ (g : Network) where
  pub is_tree : (t : Edges) → t ∈ one_trees g → OneTree g t
  unfolding one_trees
  is_tree t m = test_tree g t (select_in (is_one_tree g) (edge_sets g.m) t m).1

  -- each 1-tree is listed, as far as the edges go
  pub listed : (t : Edges) → OneTree g t → (s : Edges) × (s ∈ one_trees g) × Agree g.m s t
  unfolding one_trees
  listed t o =
      let r = covers g.m t in
      (r.0, in_select (is_one_tree g) (edge_sets g.m) r.0 r.1 (tree_test g r.0 (tree_agree g r.0 t r.2 o)), r.2)

  -- a test that reads only the edges passes at all 1-trees exactly when it passes at the listed ones
  pub every : (f : Edges → Bool) → ((s t : Edges) → Agree g.m s t → f s ≡ f t)
      → every_of f (one_trees g) ≡ true ↔ ((t : Edges) → OneTree g t → f t ≡ true)
  every f agree = ((λ h t o. at h t (listed t o)), λ h. in_every_of f (one_trees g) (λ t m. h t (is_tree t m)))
    where
      at : every_of f (one_trees g) ≡ true → (t : Edges) → (s : Edges) × (s ∈ one_trees g) × Agree g.m s t → f t ≡ true
      at h t r = sym (agree r.0 t r.2) ∙ every_of_in f (one_trees g) h r.0 r.1

  module _ (d : ℕ → ℤ) (ceiling : ℤ) where
    -- all 1-trees outside of h are above the ceiling
    above : (h : Edges → Bool) → ((s t : Edges) → Agree g.m s t → h s ≡ h t)
        → every_of (λ t. h t || lt_z ceiling (bound g d t)) (one_trees g) ≡ true
        ↔ ((t : Edges) → OneTree g t → h t ≡ false → ceiling <ℤ bound g d t)
    above h agree = (
      (λ p t o e. record { lt = true_T _ ((or_is (h t) _).0 (all_above.0 p t o) e) }),
      λ p. all_above.1 (λ t o. (or_is (h t) _).1 (λ e. T_true _ (p t o e).lt)),
    )
      where
        all_above : every_of (λ t. h t || lt_z ceiling (bound g d t)) (one_trees g) ≡ true
            ↔ ((t : Edges) → OneTree g t → h t || lt_z ceiling (bound g d t) ≡ true)
        all_above = every (λ t. h t || lt_z ceiling (bound g d t)) (λ s t i. rw (agree s t i, bound_agree g s t i d))

    module _ (e : ℕ) (me : e ∈ up_to g.m) where
      pub barred_test : barred_b g d ceiling e ≡ true ↔ Barred g d ceiling e
      unfolding barred_b Barred
      barred_test =
          let a = above (λ t. not (t e)) (λ s t i. ap not (i e me)) in
          ((λ p t o h. a.0 p t o (ap not h)), λ p. a.1 (λ t o h. p t o (not-false (t e) h)))

      pub forced_test : forced_b g d ceiling e ≡ true ↔ Forced g d ceiling e
      unfolding forced_b Forced
      forced_test = above (λ t. t e) (λ s t i. i e me)
