-- What the loops of a pass with lifting leave in their arrays, and that one turn more keeps it. Assumes nothing.
use Rattle.std.specs.Prelude.{◌≡◌, refl, ◌≢◌, ◌⊎◌, Bool, true, false, not, cond, ◌&&◌, ◌||◌, List, [], ◌∷◌, ◌++◌, ℕ, zero, suc, ◌+◌, ◌*◌, ◌-◌, ◌<◌, ◌≤◌, eqb, ltb, ℤ, length, get_or}
use Rattle.std.proofs.Math.Path.{sym}
use Rattle.std.proofs.Common.{ap, ◌∙◌, subst, inl, inr, true≢false, arith}
use Rattle.std.proofs.Math.Numerals.{add-one}
use Rattle.std.proofs.Math.Decide.{ℕ_discrete}
use Rattle.std.proofs.Math.ListN.{get_or-append}
use Rattle.std.proofs.Math.Seq.{get_or-append_seam}
use Rattle.std.proofs.lemmas.List.{length-append}
use Rattle.lists.specs.Bools.{bit}
use Rattle.swaps.specs.Hanging.{on_way, Hangs}
use Rattle.swaps.specs.RootedTree.{shape}
use Rattle.integers.specs.Range.{InRange}
use Rattle.graph.specs.Limits.{max_multiplier}
use Rattle.tree_theory.specs.Arrays.{entry}
use Rattle.lifting.specs.Folds.{more, less, most_to, place_to, least_to}
use Rattle.lifting.specs.Found.{key_of, met, top_of, place_of, top_at, cost_of}
use Rattle.lifting.specs.Meeting.{on_in}
use Rattle.lifting.specs.Verdict.{room_of}

-- ---- sides

-- 1 where x hangs at or below v
unfoldable pub side_at : List ℕ → List ℕ → ℕ → ℕ → ℕ
unfolding on_way
side_at parent depth v x = bit (on_way (λ u. get_or parent u 0) (get_or depth x 0) v x)

-- ---- the best of a list

-- of the first n places listed
pub record PickIs (a b : List ℕ) (meets : ℕ → ℕ → Bool) (none : ℕ) (c : List ℕ) (inside : Bool) (list : List ℕ) (e place top at_a at_b n : ℕ) : Type 0 where
  pub is_place : place ≡ place_of none (entry c) meets inside list n e
  pub is_top : top ≡ top_of none (entry c) meets inside list n e
  pub is_a : at_a ≡ top_at none (entry c) meets (on_in a b) inside list n (get_or a e 0) e
  pub is_b : at_b ≡ top_at none (entry c) meets (on_in a b) inside list n (get_or b e 0) e

pub pick_none : (a b : List ℕ) (meets : ℕ → ℕ → Bool) (none : ℕ) (c : List ℕ) (inside : Bool) (list : List ℕ) (e : ℕ)
    → PickIs a b meets none c inside list e 0 0 0 0 0
unfolding place_to most_to
pick_none a b meets none c inside list e = record { is_place = refl; is_top = refl; is_a = refl; is_b = refl }

module _ (a b : List ℕ) (meets : ℕ → ℕ → Bool) (none : ℕ) (c : List ℕ) (inside : Bool) (list : List ℕ) (e place top at_a at_b n : ℕ)
    (h : PickIs a b meets none c inside list e place top at_a at_b n) where
  pub pick_skip : met meets inside e (get_or list n 0) ≡ false → PickIs a b meets none c inside list e place top at_a at_b (n + 1)
  unfolding place_to most_to
  pick_skip q = rw add-one (record {
    is_place = h.is_place ∙ sym (rw q);
    is_top = h.is_top ∙ sym (rw q);
    is_a = h.is_a ∙ sym (rw q);
    is_b = h.is_b ∙ sym (rw q);
  })

  pub pick_more : (f x : ℕ) → f ≡ get_or list n 0 → met meets inside e f ≡ true → x ≡ key_of none inside (get_or c f 0)
      → PickIs a b meets none c inside list e (cond (ltb top x) f place) (more top x)
      (cond (eqb (get_or a f 0) (get_or a e 0) || eqb (get_or b f 0) (get_or a e 0)) (more at_a x) at_a)
      (cond (eqb (get_or a f 0) (get_or b e 0) || eqb (get_or b f 0) (get_or b e 0)) (more at_b x) at_b) (n + 1)
  unfolding place_to most_to more
  pick_more f x is q k = rw (add-one, k, is, h.is_place, h.is_top, h.is_a, h.is_b) (record {
    is_place = sym (rw (subst (λ (y : ℕ). met meets inside e y ≡ true) is q));
    is_top = sym (rw (subst (λ (y : ℕ). met meets inside e y ≡ true) is q));
    is_a = sym (rw (subst (λ (y : ℕ). met meets inside e y ≡ true) is q));
    is_b = sym (rw (subst (λ (y : ℕ). met meets inside e y ≡ true) is q));
  })

-- ---- the places of the free edges on one side of the tree

-- a free edge that is in the tree, or one that is not
unfoldable pub belongs : Bool → ℕ → ℕ → Bool
belongs inside mark w = eqb mark 0 && cond inside (eqb w 1) (not (eqb w 1))

-- of the places below k those that pass the test are listed, from the lowest on, and no others
pub record PlacesTo (test : ℕ → Bool) (list : List ℕ) (k : ℕ) : Type 0 where
  pub each : (i : ℕ) → i < length list → (get_or list i 0 < k) × (test (get_or list i 0) ≡ true)
  pub all : (f : ℕ) → f < k → test f ≡ true → (i : ℕ) × (i < length list) × (get_or list i 0 ≡ f)
  pub rising : (i j : ℕ) → i < j → j < length list → get_or list i 0 ≤ get_or list j 0
  pub few : length list ≤ k

pub places_none : (test : ℕ → Bool) (l : List ℕ) → length l ≡ 0 → PlacesTo test l 0
places_none test l e = record {
  each = λ i h. absurd (omega (arith, e));
  all = λ f h. absurd (omega arith);
  rising = λ i j h k. absurd (omega (arith, e));
  few = omega (arith, e);
}

module _ (test : ℕ → Bool) (list : List ℕ) (k : ℕ) (h : PlacesTo test list k) where
  pub places_skip : test k ≡ false → PlacesTo test list (k + 1)
  places_skip e = record {
    each = λ i l. (omega (arith, (h.each i l).0), (h.each i l).1);
    all = λ f l p. at f l p (ℕ_discrete f k);
    rising = h.rising;
    few = omega (arith, h.few);
  }
    where
      at : (f : ℕ) → f < k + 1 → test f ≡ true → Dec (f ≡ k) → (i : ℕ) × (i < length list) × (get_or list i 0 ≡ f)
      at f l p (yes q) = absurd (true≢false (sym p ∙ ap test q ∙ e))
      at f l p (no q) = h.all f (omega (arith, l, q)) p

  pub places-more : test k ≡ true → PlacesTo test (list ++ k ∷ []) (k + 1)
  places-more e = record {
    each = λ i l. each i l (ℕ_discrete i (length list));
    all = λ f l p. all f l p (ℕ_discrete f k);
    rising = λ i j l m. rising i j l m (ℕ_discrete j (length list));
    few = omega (arith, h.few, long);
  }
    where
      long : length (list ++ k ∷ []) ≡ length list + 1
      long = length-append list (k ∷ [])

      new : get_or (list ++ k ∷ []) (length list) 0 ≡ k
      new = get_or-append_seam list k [] 0

      old : (i : ℕ) → i < length list → get_or (list ++ k ∷ []) i 0 ≡ get_or list i 0
      old i l = get_or-append list (k ∷ []) 0 i l

      each : (i : ℕ) → i < length (list ++ k ∷ []) → Dec (i ≡ length list)
          → (get_or (list ++ k ∷ []) i 0 < k + 1) × (test (get_or (list ++ k ∷ []) i 0) ≡ true)
      each i l (yes q) = rw (q, new) (omega arith, e)
      each i l (no q) =
          let r = h.each i (omega (arith, l, q, long)) in rw (old i (omega (arith, l, q, long))) (omega (arith, r.0), r.1)

      all : (f : ℕ) → f < k + 1 → test f ≡ true → Dec (f ≡ k) → (i : ℕ) × (i < length (list ++ k ∷ [])) × (get_or (list ++ k ∷ []) i 0 ≡ f)
      all f l p (yes q) = (length list, omega (arith, long), new ∙ sym q)
      all f l p (no q) = let r = h.all f (omega (arith, l, q)) p in (r.0, omega (arith, r.1, long), old r.0 r.1 ∙ r.2)

      rising : (i j : ℕ) → i < j → j < length (list ++ k ∷ []) → Dec (j ≡ length list)
          → get_or (list ++ k ∷ []) i 0 ≤ get_or (list ++ k ∷ []) j 0
      rising i j l m (yes q) = rw (q, new, old i (omega (arith, l, q))) (omega (arith, (h.each i (omega (arith, l, q))).0))
      rising i j l m (no q) =
          rw (old j (omega (arith, m, q, long)), old i (omega (arith, l, m, q, long))) (h.rising i j l (omega (arith, m, q, long)))

-- ---- steps of small loops and tests

pub least_step : (none : ℕ) (test : ℕ → Bool) (key : ℕ → ℕ) (list : List ℕ) (j : ℕ)
    → least_to none test key list (j + 1)
    ≡ cond (test (get_or list j 0)) (less (least_to none test key list j) (key (get_or list j 0))) (least_to none test key list j)
unfolding least_to
least_step none test key list j = rw add-one

-- labels that can be climbed, and where a climb of `left` steps more stands
abbrev pub Climbable : List ℕ → List ℕ → Type 0
Climbable parent depth = Hangs (shape parent depth) × ((u : ℕ) → 1 ≤ get_or depth u 0 → 2 ≤ u)

abbrev pub OnPath : List ℕ → ℕ → ℕ → Type 0
OnPath depth y left = (left ≡ 0) ⊎ ((2 ≤ y) × (get_or depth y 0 ≡ left))

module _ (parent depth : List ℕ) (h : Climbable parent depth) where
  pub way_start : (x : ℕ) → OnPath depth x (get_or depth x 0)
  way_start x = go (ℕ_discrete (get_or depth x 0) 0)
    where
      go : Dec (get_or depth x 0 ≡ 0) → OnPath depth x (get_or depth x 0)
      go (yes e) = inl e
      go (no n) = inr (h.1 x (omega (arith, n)), refl)

  pub way_room : (y left : ℕ) → left ≢ 0 → OnPath depth y left → y < 21
  way_room y left n (inl e) = absurd (n e)
  way_room y left n (inr (l, e)) = omega (arith, h.0.room y (omega (arith, n, e)))

  pub way_keeps : (y left : ℕ) → left ≢ 0 → OnPath depth y left → OnPath depth (get_or parent y 0) (left - 1)
  way_keeps y left n (inl e) = absurd (n e)
  way_keeps y left n (inr (l, e)) = go (ℕ_discrete left 1)
    where
      go : Dec (left ≡ 1) → OnPath depth (get_or parent y 0) (left - 1)
      go (yes q) = inl (omega (arith, q))
      go (no q) =
          let i : 3 ≤ y = three (ℕ_discrete y 2) in
          let d : 1 ≤ get_or depth y 0 = omega (arith, n, e) in
          inr ((h.0.inside y (i, d)).0, omega (arith, h.0.deep y (i, d), e))
        where
          three : Dec (y ≡ 2) → 3 ≤ y
          three (yes z) = absurd (q (sym e ∙ ap (λ (x : ℕ). get_or depth x 0) z ∙ h.0.root))
          three (no z) = omega (arith, l, z)

-- ---- the size of what is worked out

-- a place that is met is listed, or 0
pub place-small : (test : ℕ → Bool) (key : ℕ → ℕ) (list : List ℕ) (n : ℕ) → ((j : ℕ) → j < n → get_or list j 0 < 190) → place_to test key list n < 190
unfolding place_to
place-small test key list zero h = omega arith
place-small test key list (suc n) h =
    go (test (get_or list n 0)) (ltb (most_to test key list n) (key (get_or list n 0))) (place-small test key list n (λ j l. h j (omega arith)))
  where
    go : (x y : Bool) → place_to test key list n < 190 → cond x (cond y (get_or list n 0) (place_to test key list n)) (place_to test key list n) < 190
    go true true l = h n (omega arith)
    go true false l = l
    go false y l = l

pub room_small : (inside : Bool) (z : ℤ) → InRange max_multiplier z → room_of inside z ≤ 2 * max_multiplier
unfolding room_of
room_small true z r = omega (arith, r.high)
room_small false z r = omega (arith, r.low)

-- a cost is at most none, where the key is
pub cost-small : (none own top : ℕ) → own ≤ none → cost_of none own top ≤ none
unfolding cost_of
cost-small none own top h = go (eqb top 0)
  where
    go : (b : Bool) → cond b none (own - top) ≤ none
    go true = omega arith
    go false = omega (arith, h)
