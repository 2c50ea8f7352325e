-- A kept edge has the ruling with lifting in the network that it has in the thin one, where every edge that is not kept is excluded: supports,
-- replacements and lifted multipliers are alike, since no edge that is not kept is in the tree, gives way to one or takes the place of one.
use Rattle.std.specs.Prelude.{◌≡◌, Bool, cond, ◌&&◌, eqb, ℕ, ℤ, ◌-ℤ◌}
use Rattle.std.proofs.Math.Path.{refl, ap}
use Rattle.std.proofs.Common.{sym, ◌∙◌, eq-eqb, ne_eqb}
use Rattle.std.proofs.Math.Bool.{true, false, not, true≢false}
use Rattle.std.proofs.Math.Decide.{ℕ_discrete}
use mathlib.Core.List.{List, [], ◌∷◌, map}
use Rattle.std.specs.Int.Signed.{lt_z}
use Rattle.lists.specs.Bools.{by_cases, and_no_left, and_no_right}
use Rattle.lists.specs.Members.{◌∈◌}
use Rattle.lists.specs.Select.{select, select_in, select_cong}
use Rattle.lists.specs.Numbers.{up_to}
use Rattle.lists.specs.Sets.{◌⊕◌, ◌⊖◌, plus_other, minus_false}
use Rattle.graph.specs.Network.{Network}
use Rattle.tree_theory.specs.OneTree.{Edges, charge}
use Rattle.tree_theory.specs.Agree.{Agree, tree_agree}
use Rattle.tree_theory.specs.Enumeration.{is_one_tree, Tree, no_tree, a_tree, least_tree}
use Rattle.tree_theory.specs.Enumeration.{Ruling, keeps, forces, bars, was_required, was_excluded, ruling}
use Rattle.tree_theory.specs.Decide.{test_tree, tree_test}
use Rattle.tree_theory.specs.Valid.{is_required, is_excluded}
use Rattle.lifting.specs.Lifted.{touches, is_giver, is_taker, Choice, none, one, or_better, best, support, replacement, limit, reduced_cost, replacement_cost}
use Rattle.lifting.specs.Lifted.{gather, rise_limits, fall_limits, rises, falls, rise_by, fall_by, rise, fall, raised, lowered, tried, retried, ruling_with}
use Rattle.lifting.specs.Agreeing.{gather_cong, raised_agree, lowered_agree}
use Rattle.thinning.specs.Ranks.{rank, nth, nth-kept, nth_of, rank_back, Only, down, select-thin}
use Rattle.thinning.specs.Thinned.{thin, spread, RestExcluded, Spread, tree-down, tree-up, least-thin}
use Rattle.thinning.specs.Reading.{same_only, same-down, degree-thin}
use Rattle.thinning.specs.Rulings.{same_test, barred_thin, forced_thin, ruling-thin}

-- ---- lists in other numbers

module _ (f : ℕ → ℕ) where
  -- an edge that was chosen in new numbers, in old ones
  abbrev chosen : Choice → Choice
  chosen none = none
  chosen (one k) = one (f k)

  best_map : (better : ℕ → ℕ → Bool) (ks : List ℕ) → best better (map f ks) ≡ chosen (best (λ k j. better (f k) (f j)) ks)
  unfolding best
  best_map better [] = refl
  best_map better (k ∷ ks) = rw (best_map better ks) (go (best (λ i j. better (f i) (f j)) ks))
    where
      pick : (j : ℕ) (b : Bool) → one (cond b (f k) (f j)) ≡ one (f (cond b k j))
      pick j true = refl
      pick j false = refl

      go : (x : Choice) → or_better better (f k) (chosen x) ≡ chosen (or_better (λ i j. better (f i) (f j)) k x)
      go none = refl
      go (one j) = pick j (better (f k) (f j))

  limit_map : (x : Choice) (h : ℕ → ℤ) → limit (chosen x) h ≡ limit x (λ k. h (f k))
  limit_map none h = refl
  limit_map (one k) h = refl

  gather_map : (h : ℕ → List ℤ) (ks : List ℕ) → gather h (map f ks) ≡ gather (λ k. h (f k)) ks
  unfolding gather
  gather_map h [] = refl
  gather_map h (k ∷ ks) = rw (gather_map h ks)

  map-map : (h : ℕ → ℤ) (ks : List ℕ) → map h (map f ks) ≡ map (λ k. h (f k)) ks
  map-map h [] = refl
  map-map h (k ∷ ks) = rw (map-map h ks)

module _ (c : Edges) (g : Network) (rest : RestExcluded c g) where
  -- the old number of a new one
  abbrev old : ℕ → ℕ
  old = nth c g.m

  abbrev New : ℕ → Type 0
  New j = j ∈ up_to (rank c g.m)

  same_number : (j k : ℕ) → New j → New k → eqb (old j) (old k) ≡ eqb j k
  same_number j k i l = go (ℕ_discrete j k)
    where
      go : Dec (j ≡ k) → eqb (old j) (old k) ≡ eqb j k
      go (yes e) = eq-eqb (old j) (old k) (ap old e) ∙ sym (eq-eqb j k e)
      go (no e) =
          ne_eqb (old j) (old k) (λ q. e (sym (rank_back c g.m j i) ∙ ap (rank c) q ∙ rank_back c g.m k l)) ∙ sym (ne_eqb j k e)

  -- ---- the tree t, without edges that are not kept

  module _ (t : Edges) (only : Only c g.m t) where
    abbrev t' : Edges
    t' = down c g.m t

    swapped : (a b : ℕ) → New a → New b → Agree (rank c g.m) (down c g.m (t ⊖ old a ⊕ old b)) (t' ⊖ a ⊕ b)
    unfolding ◌⊕◌ ◌⊖◌
    swapped a b i l j m = rw (same_number j a m i, same_number j b m l)

    swapped_only : (a b : ℕ) → New b → Only c g.m (t ⊖ old a ⊕ old b)
    swapped_only a b l k i e =
        plus_other (t ⊖ old a) (old b) k (λ q. true≢false (sym (nth-kept c g.m b l) ∙ ap c (sym q) ∙ e))
        ∙ minus_false t (old a) k (only k i e)

    swapped_tree : (a b : ℕ) → New a → New b → is_one_tree g (t ⊖ old a ⊕ old b) ≡ is_one_tree (thin c g) (t' ⊖ a ⊕ b)
    swapped_tree a b i l =
        same_test (is_one_tree g s) (is_one_tree (thin c g) r)
        (λ h. tree_test (thin c g) r (tree_agree (thin c g) r (down c g.m s) (λ k m. sym (swapped a b i l k m))
        (tree-down c g s (swapped_only a b l) (test_tree g s h))))
        (λ h. tree_test g s (tree-up c g s (swapped_only a b l) rest
        (tree_agree (thin c g) (down c g.m s) r (swapped a b i l) (test_tree (thin c g) r h))))
      where
        s : Edges
        s = t ⊖ old a ⊕ old b

        r : Edges
        r = t' ⊖ a ⊕ b

    -- ---- supports and replacements

    module _ (e : ℕ) (me : New e) where
      giver_thin : (k : ℕ) → New k → is_giver g t (old e) (old k) ≡ is_giver (thin c g) t' e k
      unfolding is_giver
      giver_thin k i = rw (swapped_tree k e i me)

      taker_thin : (k : ℕ) → New k → is_taker g t (old e) (old k) ≡ is_taker (thin c g) t' e k
      unfolding is_taker
      taker_thin k i = rw (swapped_tree e k me i)

      giver_only : Only c g.m (is_giver g t (old e))
      unfolding is_giver
      giver_only k i f = and_no_left _ _ (and_no_left (t k) _ (only k i f))

      taker_only : Only c g.m (is_taker g t (old e))
      unfolding is_taker
      taker_only k i f = and_no_left _ _ (and_no_right (not (t k)) _ (ap (λ x. not (is_excluded x)) (rest k i f)))

      module _ (d : ℕ → ℤ) where
        support-thin : support g d t (old e) ≡ chosen old (support (thin c g) d t' e)
        unfolding support
        support-thin =
            rw (select-thin c g.m (is_giver g t (old e)) giver_only, select_cong _ (is_giver (thin c g) t' e) (up_to (rank c g.m)) giver_thin)
            (unfold charge in best_map old (λ k j. lt_z (charge g d j) (charge g d k)) (select (is_giver (thin c g) t' e) (up_to (rank c g.m))))

        replacement-thin : replacement g d t (old e) ≡ chosen old (replacement (thin c g) d t' e)
        unfolding replacement
        replacement-thin =
            rw (select-thin c g.m (is_taker g t (old e)) taker_only, select_cong _ (is_taker (thin c g) t' e) (up_to (rank c g.m)) taker_thin)
            (unfold charge in best_map old (λ k j. lt_z (charge g d k) (charge g d j)) (select (is_taker (thin c g) t' e) (up_to (rank c g.m))))

        reduced-thin : reduced_cost g d t (old e) ≡ reduced_cost (thin c g) d t' e
        unfolding reduced_cost charge
        reduced-thin = rw support-thin (limit_map old (support (thin c g) d t' e) (λ s. charge g d (old e) -ℤ charge g d s))

        replaced-thin : replacement_cost g d t (old e) ≡ replacement_cost (thin c g) d t' e
        unfolding replacement_cost charge
        replaced-thin = rw replacement-thin (limit_map old (replacement (thin c g) d t' e) (λ r. charge g d r -ℤ charge g d (old e)))

    -- ---- how far an end moves

    same : Agree g.m t (spread c t')
    same k i = by_cases (c k) (λ e. rw e (ap t (sym (nth_of c g.m k i e)))) (λ e. rw e (only k i e))

    rises-thin : (s i : ℕ) → rises g t (old s) i ≡ rises (thin c g) t' s i
    unfolding rises
    rises-thin s i = rw (degree-thin c g t t' same i)

    falls-thin : (r i : ℕ) → falls g t (old r) i ≡ falls (thin c g) t' r i
    unfolding falls
    falls-thin r i = rw (degree-thin c g t t' same i)

    module _ (d : ℕ → ℤ) (e : ℕ) (me : New e) (i j : ℕ) where
      -- the limits that listed edges make, where the listed ones are all kept
      gathered : (f f' : ℕ → List ℤ) (p : ℕ → Bool) → Only c g.m p → ((k : ℕ) → New k → f (old k) ≡ f' k)
          → gather f (select p (up_to g.m)) ≡ gather f' (select (λ k. p (old k)) (up_to (rank c g.m)))
      gathered f f' p o h =
          ap (gather f) (select-thin c g.m p o)
          ∙ gather_map old f (select (λ k. p (old k)) (up_to (rank c g.m)))
          ∙ gather_cong (λ k. f (old k)) f' (select (λ k. p (old k)) (up_to (rank c g.m)))
          (λ k m. h k (select_in (λ l. p (old l)) (up_to (rank c g.m)) k m).0)

      mapped : (f : ℕ → ℤ) (p p' : ℕ → Bool) → Only c g.m p → ((k : ℕ) → New k → p (old k) ≡ p' k)
          → map f (select p (up_to g.m)) ≡ map (λ k. f (old k)) (select p' (up_to (rank c g.m)))
      mapped f p p' o h =
          ap (map f) (select-thin c g.m p o)
          ∙ map-map old f (select (λ k. p (old k)) (up_to (rank c g.m)))
          ∙ ap (map (λ k. f (old k))) (select_cong (λ k. p (old k)) p' (up_to (rank c g.m)) h)

      rise_limits-thin : (s : ℕ) → rise_limits g d t (old e) (old s) i j ≡ rise_limits (thin c g) d t' e s i j
      unfolding rise_limits charge
      rise_limits-thin s =
          rw (
            gathered (replacement_cost g d t) (replacement_cost (thin c g) d t') (λ f. (t f && not (is_required (g.mark f))) && touches g i f)
                (λ k m f. and_no_left _ _ (and_no_left (t k) _ (only k m f))) (λ k m. replaced-thin k m d),
            mapped (λ f. charge g d (old s) -ℤ charge g d f) (λ f. is_giver g t (old e) f && touches g i f)
                (λ f. is_giver (thin c g) t' e f && touches (thin c g) i f) (λ k m f. and_no_left _ _ (giver_only e me k m f))
                (λ k m. ap (λ (b : Bool). b && touches (thin c g) i k) (giver_thin e me k m)),
          )

      fall_limits-thin : (r : ℕ) → fall_limits g d t (old e) (old r) i j ≡ fall_limits (thin c g) d t' e r i j
      unfolding fall_limits charge
      fall_limits-thin r =
          rw (
            gathered (reduced_cost g d t) (reduced_cost (thin c g) d t') (λ h. (not (t h) && not (is_excluded (g.mark h))) && touches g i h)
                (λ k m f. and_no_left _ _ (and_no_right (not (t k)) _ (ap (λ x. not (is_excluded x)) (rest k m f)))) (λ k m. reduced-thin k m d),
            mapped (λ h. charge g d h -ℤ charge g d (old r)) (λ h. is_taker g t (old e) h && touches g i h)
                (λ h. is_taker (thin c g) t' e h && touches (thin c g) i h) (λ k m f. and_no_left _ _ (taker_only e me k m f))
                (λ k m. ap (λ (b : Bool). b && touches (thin c g) i k) (taker_thin e me k m)),
          )

      rise-thin : rise g d t (old e) i j ≡ rise (thin c g) d t' e i j
      unfolding rise
      rise-thin = rw (support-thin e me d) (go (support (thin c g) d t' e))
        where
          go : (x : Choice) → rise_by g d t (old e) i j (chosen old x) ≡ rise_by (thin c g) d t' e i j x
          go none = refl
          go (one s) = rw (rises-thin s i, rise_limits-thin s)

      fall-thin : fall g d t (old e) i j ≡ fall (thin c g) d t' e i j
      unfolding fall
      fall-thin = rw (replacement-thin e me d) (go (replacement (thin c g) d t' e))
        where
          go : (x : Choice) → fall_by g d t (old e) i j (chosen old x) ≡ fall_by (thin c g) d t' e i j x
          go none = refl
          go (one r) = rw (falls-thin r i, fall_limits-thin r)

  -- ---- the lifted multipliers: t in old numbers, r in new ones

  module _ (t r : Edges) (same : Agree g.m t (spread c r)) (d : ℕ → ℤ) (e : ℕ) (me : New e) where
    only : Only c g.m t
    only = same_only c g t r same

    raised-thin : raised g d t (old e) ≡ raised (thin c g) d r e
    raised-thin = before ∙ raised_agree (thin c g) (down c g.m t) r (same-down c g t r same) d e
      where
        before : raised g d t (old e) ≡ raised (thin c g) d (down c g.m t) e
        before = unfold raised in
            rw (rise-thin t only d e me (g.a (old e)) (g.b (old e)), rise-thin t only d e me (g.b (old e)) (g.a (old e)))

    lowered-thin : lowered g d t (old e) ≡ lowered (thin c g) d r e
    lowered-thin = before ∙ lowered_agree (thin c g) (down c g.m t) r (same-down c g t r same) d e
      where
        before : lowered g d t (old e) ≡ lowered (thin c g) d (down c g.m t) e
        before = unfold lowered in
            rw (fall-thin t only d e me (g.a (old e)) (g.b (old e)), fall-thin t only d e me (g.b (old e)) (g.a (old e)))

    -- ---- the rulings

    tried-thin : (ceiling : ℤ) → tried g d ceiling (old e) t (t (old e)) ≡ tried (thin c g) d ceiling e r (r e)
    tried-thin ceiling = rw (same-down c g t r same e me) (go (r e))
      where
        go : (b : Bool) → tried g d ceiling (old e) t b ≡ tried (thin c g) d ceiling e r b
        go false = rw (raised-thin, barred_thin c g rest (raised (thin c g) d r e) ceiling e me)
        go true = rw (lowered-thin, forced_thin c g rest (lowered (thin c g) d r e) ceiling e me)

  -- THE RULING OF A KEPT EDGE, with lifting or without
  pub ruling_with-thin : (lifting : Bool) (d : ℕ → ℤ) (ceiling : ℤ) (j : ℕ) → j ∈ up_to (rank c g.m)
      → ruling_with lifting g d ceiling (nth c g.m j) ≡ ruling_with lifting (thin c g) d ceiling j
  unfolding ruling_with
  ruling_with-thin false d ceiling j i = ruling-thin c g rest d ceiling j i
  ruling_with-thin true d ceiling j i =
      rw (ruling-thin c g rest d ceiling j i)
      (go (least_tree (thin c g) d) (least_tree g d) (least-thin c g rest d) (ruling (thin c g) d ceiling j))
    where
      go : (x y : Tree) → Spread c g.m x y → (z : Ruling) → retried g d ceiling (old j) y z ≡ retried (thin c g) d ceiling j x z
      go no_tree y s z = rw s
      go (a_tree b r) y s keeps = rw s.1 (tried-thin s.0 r s.2 d j i ceiling)
      go (a_tree b r) y s forces = rw s.1
      go (a_tree b r) y s bars = rw s.1
      go (a_tree b r) y s was_required = rw s.1
      go (a_tree b r) y s was_excluded = rw s.1
