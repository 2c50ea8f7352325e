-- The values of Lifted are those that Plain tells of: the support and the replacement that are found are the ones, none is found only where there is none,
-- and the change of an end is the least of what holds it. Assumes nothing.
use Rattle.std.specs.Prelude.{◌≡◌, ◌≢◌, ◌↔◌, ◌⊎◌, Bool, cond, ◌&&◌, ℕ, zero, suc, ◌≤◌, eqb, ℤ, pos, ◌+ℤ◌, ◌-ℤ◌, ◌≤ℤ◌}
use Rattle.std.proofs.Math.Path.{refl}
use Rattle.std.proofs.Common.{sym, ap, ◌∙◌, subst, arith}
use Rattle.std.proofs.Math.Logic.{inl, inr}
use Rattle.std.proofs.Math.Bool.{true, false, not, true≢false}
use mathlib.Core.List.{List, [], ◌∷◌, ◌++◌, map}
use Rattle.std.specs.Int.Signed.{lt_z, ≤ℤ_refl}
use borrow.Author.Tests.{eqb-false, ne_eqb, not-true}
use Rattle.lists.specs.Bools.{by_cases, and_both}
use Rattle.lists.specs.Members.{◌∈◌, in_left, in_right, in_either, in_map, of_map}
use Rattle.lists.specs.Select.{keep, select, select_in, in_select}
use Rattle.lists.specs.Numbers.{up_to, in_up_to}
use Rattle.lists.specs.Sets.{◌⊕◌, ◌⊖◌}
use Rattle.integers.specs.Order.{le_trans, lt-le, le_antisym, le_lt_clash, test_lt, test_not_lt}
use Rattle.graph.specs.Limits.{max_multiplier}
use Rattle.graph.specs.Network.{Network, Mark, free, required, excluded}
use Rattle.tree_theory.specs.OneTree.{Edges, charge}
use Rattle.tree_theory.specs.Enumeration.{is_one_tree}
use Rattle.tree_theory.specs.Decide.{test_tree, tree_test}
use Rattle.tree_theory.specs.Valid.{is_required, is_excluded}
use Rattle.lifting.specs.Lifted.{touches, is_giver, is_taker, Choice, none, one, or_better, best, support, replacement, limit, reduced_cost, replacement_cost}
use Rattle.lifting.specs.Lifted.{gather, lesser, at_most, rise_limits, fall_limits, rises, falls, rise, fall}
use Rattle.lifting.specs.Plain.{Giver, Taker, IsSupport, IsReplacement, IsLeast, ByReplacement, BySupport, HoldsRise, ByReduced, ByTaker, HoldsFall}

-- ---- the best of a list

-- no later one has a higher number
abbrev Falling : List ℕ → Type 0
Falling [] = Unit {0}
Falling (k ∷ ks) = ((j : ℕ) → j ∈ ks → j ≤ k) × Falling ks

falling_up_to : (p : ℕ → Bool) (m : ℕ) → Falling (select p (up_to m))
unfolding select up_to
falling_up_to p zero = tt
falling_up_to p (suc m) = go (p (suc m)) (falling_up_to p m)
  where
    go : (b : Bool) → Falling (select p (up_to m)) → Falling (keep b (suc m) (select p (up_to m)))
    go true h = ((λ j i. omega (arith, (in_up_to m j (select_in p (up_to m) j i).0).1)), h)
    go false h = h

pub best_none : (better : ℕ → ℕ → Bool) (xs : List ℕ) → best better xs ≡ none → (k : ℕ) → k ∈ xs → ⊥
unfolding best
best_none better [] h k i = i
best_none better (x ∷ xs) h k i = go (best better xs) h
  where
    go : (c : Choice) → or_better better x c ≡ none → ⊥
    go none h = let z : true ≡ false = cc in true≢false z
    go (one j) h = let z : true ≡ false = cc in true≢false z

-- s is the best of xs, and of equals the one with the lowest number
record Best (better : ℕ → ℕ → Bool) (xs : List ℕ) (s : ℕ) : Type 0 where
  member : s ∈ xs
  none_better : (f : ℕ) → f ∈ xs → better f s ≡ false
  first : (f : ℕ) → f ∈ xs → better s f ≡ false → s ≤ f

module _ (better : ℕ → ℕ → Bool) (apart : (a b : ℕ) → better a b ≡ true → better b a ≡ false)
    (through : (a b c : ℕ) → better a b ≡ false → better b c ≡ false → better a c ≡ false) where
  not_self : (a : ℕ) → better a a ≡ false
  not_self a = by_cases (better a a) (λ e. apart a a e) (λ e. e)

  best-one : (xs : List ℕ) → Falling xs → (s : ℕ) → best better xs ≡ one s → Best better xs s
  unfolding best
  best-one [] o s h = absurd (let z : none ≡ one s = h in let y : true ≡ false = cc in true≢false y)
  best-one (k ∷ ks) o s h = go (best better ks) refl h (λ j. best-one ks o.1 j)
    where
      only : (ys : List ℕ) → ((f : ℕ) → f ∈ ys → ⊥) → Best better (k ∷ ys) k
      only ys n = record {
        member = inl refl;
        none_better = λ f i. self f i;
        first = λ f i e. low f i;
      }
        where
          self : (f : ℕ) → (f ≡ k) ⊎ (f ∈ ys) → better f k ≡ false
          self f (inl e) = rw e (not_self k)
          self f (inr i) = absurd (n f i)

          low : (f : ℕ) → (f ≡ k) ⊎ (f ∈ ys) → k ≤ f
          low f (inl e) = omega arith
          low f (inr i) = absurd (n f i)

      pick : (j : ℕ) → Best better ks j → (b : Bool) → better k j ≡ b → Best better (k ∷ ks) (cond b k j)
      pick j q true e = record { member = inl refl; none_better = λ f i. under f i; first = λ f i x. low f i x }
        where
          under : (f : ℕ) → (f ≡ k) ⊎ (f ∈ ks) → better f k ≡ false
          under f (inl z) = rw z (not_self k)
          under f (inr i) = through f j k (q.none_better f i) (apart k j e)

          low : (f : ℕ) → (f ≡ k) ⊎ (f ∈ ks) → better k f ≡ false → k ≤ f
          low f (inl z) x = omega arith
          low f (inr i) x = absurd (true≢false (sym e ∙ through k f j x (q.none_better f i)))
      pick j q false e = record { member = inr q.member; none_better = λ f i. under f i; first = λ f i x. low f i x }
        where
          under : (f : ℕ) → (f ≡ k) ⊎ (f ∈ ks) → better f j ≡ false
          under f (inl z) = rw z e
          under f (inr i) = q.none_better f i

          low : (f : ℕ) → (f ≡ k) ⊎ (f ∈ ks) → better j f ≡ false → j ≤ f
          low f (inl z) x = omega (arith, o.0 j q.member)
          low f (inr i) x = q.first f i x

      go : (c : Choice) → best better ks ≡ c → or_better better k c ≡ one s → ((j : ℕ) → best better ks ≡ one j → Best better ks j)
          → Best better (k ∷ ks) s
      go none e h below = let z : k ≡ s = cc in subst (Best better (k ∷ ks)) z (only ks (λ f i. best_none better ks e f i))
      go (one j) e h below = let z : cond (better k j) k j ≡ s = cc in subst (Best better (k ∷ ks)) z (pick j (below j e) (better k j) refl)

-- ---- by charges

lt_apart : (x y : ℤ) → lt_z x y ≡ true → lt_z y x ≡ false
lt_apart x y h = by_cases (lt_z y x) (λ e. absurd (le_lt_clash x y (lt-le x y (test_lt x y h)) (test_lt y x e))) (λ e. e)

not-lt : (x y : ℤ) → y ≤ℤ x → lt_z x y ≡ false
not-lt x y h = by_cases (lt_z x y) (λ e. absurd (le_lt_clash y x h (test_lt x y e))) (λ e. e)

lt_through : (x y z : ℤ) → lt_z x y ≡ false → lt_z y z ≡ false → lt_z x z ≡ false
lt_through x y z h k = not-lt x z (le_trans z y x (test_not_lt y z k) (test_not_lt x y h))

-- ---- givers and takers

pub not_required : (x : Mark) → not (is_required x) ≡ true → x ≢ required
not_required x h e = true≢false (sym h ∙ ap (λ (y : Mark). not (is_required y)) e)

pub required_not : (x : Mark) → x ≢ required → not (is_required x) ≡ true
required_not free h = refl
required_not required h = absurd (h refl)
required_not excluded h = refl

pub not_excluded : (x : Mark) → not (is_excluded x) ≡ true → x ≢ excluded
not_excluded x h e = true≢false (sym h ∙ ap (λ (y : Mark). not (is_excluded y)) e)

pub excluded_not : (x : Mark) → x ≢ excluded → not (is_excluded x) ≡ true
excluded_not free h = refl
excluded_not required h = refl
excluded_not excluded h = absurd (h refl)

module _ (g : Network) (t : Edges) (e k : ℕ) (m : k ∈ up_to g.m) where
  pub giver_test : is_giver g t e k ≡ true ↔ Giver g t e k
  unfolding is_giver
  giver_test = (
    (λ h.
        let x = and_both (t k && not (is_required (g.mark k))) (is_one_tree g (t ⊖ k ⊕ e)) h in
        let y = and_both (t k) (not (is_required (g.mark k))) x.0 in
        record { listed = m; inside = y.0; loose = not_required (g.mark k) y.1; tree = test_tree g (t ⊖ k ⊕ e) x.1 }),
    λ r. rw (r.inside, required_not (g.mark k) r.loose) (tree_test g (t ⊖ k ⊕ e) r.tree),
  )

  pub taker_test : is_taker g t e k ≡ true ↔ Taker g t e k
  unfolding is_taker
  taker_test = (
    (λ h.
        let x = and_both (not (t k) && not (is_excluded (g.mark k))) (is_one_tree g (t ⊖ e ⊕ k)) h in
        let y = and_both (not (t k)) (not (is_excluded (g.mark k))) x.0 in
        record { listed = m; outside = not-true (t k) y.0; allowed = not_excluded (g.mark k) y.1; tree = test_tree g (t ⊖ e ⊕ k) x.1 }),
    λ r. rw (r.outside, excluded_not (g.mark k) r.allowed) (tree_test g (t ⊖ e ⊕ k) r.tree),
  )

-- ---- the support and the replacement

module _ (g : Network) (d : ℕ → ℤ) (t : Edges) (e : ℕ) where
  giver_in : (s : ℕ) → s ∈ select (is_giver g t e) (up_to g.m) → Giver g t e s
  giver_in s i = let q = select_in (is_giver g t e) (up_to g.m) s i in (giver_test g t e s q.0).0 q.1

  in_giver : (s : ℕ) → Giver g t e s → s ∈ select (is_giver g t e) (up_to g.m)
  in_giver s r = in_select (is_giver g t e) (up_to g.m) s r.listed ((giver_test g t e s r.listed).1 r)

  taker_in : (s : ℕ) → s ∈ select (is_taker g t e) (up_to g.m) → Taker g t e s
  taker_in s i = let q = select_in (is_taker g t e) (up_to g.m) s i in (taker_test g t e s q.0).0 q.1

  in_taker : (s : ℕ) → Taker g t e s → s ∈ select (is_taker g t e) (up_to g.m)
  in_taker s r = in_select (is_taker g t e) (up_to g.m) s r.listed ((taker_test g t e s r.listed).1 r)

  pub no_support : support g d t e ≡ none → (s : ℕ) → Giver g t e s → ⊥
  unfolding support
  no_support h s r = best_none _ (select (is_giver g t e) (up_to g.m)) h s (in_giver s r)

  pub no_replacement : replacement g d t e ≡ none → (r : ℕ) → Taker g t e r → ⊥
  unfolding replacement
  no_replacement h s r = best_none _ (select (is_taker g t e) (up_to g.m)) h s (in_taker s r)

  pub support_is : (s : ℕ) → support g d t e ≡ one s → IsSupport g d t e s
  unfolding support
  support_is s h = record {
    giver = giver_in s q.member;
    dearest = λ f r. test_not_lt (charge g d s) (charge g d f) (q.none_better f (in_giver f r));
    lowest = λ f r z. q.first f (in_giver f r) (not-lt (charge g d f) (charge g d s) (rw z (≤ℤ_refl _)));
  }
    where
      q : Best (λ k j. lt_z (charge g d j) (charge g d k)) (select (is_giver g t e) (up_to g.m)) s
      q = best-one (λ k j. lt_z (charge g d j) (charge g d k)) (λ a b h. lt_apart (charge g d b) (charge g d a) h)
          (λ a b c h k. lt_through (charge g d c) (charge g d b) (charge g d a) k h)
          (select (is_giver g t e) (up_to g.m)) (falling_up_to (is_giver g t e) g.m) s h

  pub replacement_is : (r : ℕ) → replacement g d t e ≡ one r → IsReplacement g d t e r
  unfolding replacement
  replacement_is s h = record {
    taker = taker_in s q.member;
    cheapest = λ f r. test_not_lt (charge g d f) (charge g d s) (q.none_better f (in_taker f r));
    lowest = λ f r z. q.first f (in_taker f r) (not-lt (charge g d s) (charge g d f) (rw z (≤ℤ_refl _)));
  }
    where
      q : Best (λ k j. lt_z (charge g d k) (charge g d j)) (select (is_taker g t e) (up_to g.m)) s
      q = best-one (λ k j. lt_z (charge g d k) (charge g d j)) (λ a b h. lt_apart (charge g d a) (charge g d b) h)
          (λ a b c h k. lt_through (charge g d a) (charge g d b) (charge g d c) h k)
          (select (is_taker g t e) (up_to g.m)) (falling_up_to (is_taker g t e) g.m) s h

  -- and there is no other
  pub is_support : (s : ℕ) → IsSupport g d t e s → support g d t e ≡ one s
  is_support s p = go (support g d t e) refl
    where
      go : (c : Choice) → support g d t e ≡ c → support g d t e ≡ one s
      go none h = absurd (no_support h s p.giver)
      go (one j) h = h ∙ ap one same
        where
          q : IsSupport g d t e j
          q = support_is j h

          level : charge g d j ≡ charge g d s
          level = le_antisym (charge g d j) (charge g d s) (p.dearest j q.giver) (q.dearest s p.giver)

          same : j ≡ s
          same = omega (arith, q.lowest s p.giver (sym level), p.lowest j q.giver level)

  pub is_replacement : (r : ℕ) → IsReplacement g d t e r → replacement g d t e ≡ one r
  is_replacement s p = go (replacement g d t e) refl
    where
      go : (c : Choice) → replacement g d t e ≡ c → replacement g d t e ≡ one s
      go none h = absurd (no_replacement h s p.taker)
      go (one j) h = h ∙ ap one same
        where
          q : IsReplacement g d t e j
          q = replacement_is j h

          level : charge g d j ≡ charge g d s
          level = le_antisym (charge g d j) (charge g d s) (q.cheapest s p.taker) (p.cheapest j q.taker)

          same : j ≡ s
          same = omega (arith, q.lowest s p.taker (sym level), p.lowest j q.taker level)

-- ---- the least of what holds a change

-- the least of z and of those listed is one of them, and no greater than any
pub at_most_in : (z : ℤ) (xs : List ℤ) → (at_most z xs ≡ z) ⊎ (at_most z xs ∈ xs)
unfolding at_most
at_most_in z [] = inl refl
at_most_in z (x ∷ xs) = go (lt_z x (at_most z xs)) (at_most_in z xs)
  where
    go : (b : Bool) → (at_most z xs ≡ z) ⊎ (at_most z xs ∈ xs) → (lesser b x (at_most z xs) ≡ z) ⊎ ((lesser b x (at_most z xs) ≡ x) ⊎ (lesser b x (at_most z xs) ∈ xs))
    go true h = inr (inl refl)
    go false (inl e) = inl e
    go false (inr i) = inr (inr i)

pub at_most-le : (z : ℤ) (xs : List ℤ) (y : ℤ) → (y ≡ z) ⊎ (y ∈ xs) → at_most z xs ≤ℤ y
unfolding at_most
at_most-le z [] y (inl e) = rw e (≤ℤ_refl z)
at_most-le z [] y (inr i) = absurd i
at_most-le z (x ∷ xs) y i = go (lt_z x (at_most z xs)) refl i (λ h. at_most-le z xs y h)
  where
    go : (b : Bool) → lt_z x (at_most z xs) ≡ b → (y ≡ z) ⊎ ((y ≡ x) ⊎ (y ∈ xs)) → ((y ≡ z) ⊎ (y ∈ xs) → at_most z xs ≤ℤ y)
        → lesser b x (at_most z xs) ≤ℤ y
    go true e (inl q) below = le_trans x (at_most z xs) y (lt-le x (at_most z xs) (test_lt x (at_most z xs) e)) (below (inl q))
    go true e (inr (inl q)) below = rw q (≤ℤ_refl x)
    go true e (inr (inr q)) below = le_trans x (at_most z xs) y (lt-le x (at_most z xs) (test_lt x (at_most z xs) e)) (below (inr q))
    go false e (inl q) below = below (inl q)
    go false e (inr (inl q)) below = rw q (test_not_lt x (at_most z xs) e)
    go false e (inr (inr q)) below = below (inr q)

pub gather_in : (f : ℕ → List ℤ) (ks : List ℕ) (x : ℤ) → x ∈ gather f ks → (k : ℕ) × (k ∈ ks) × (x ∈ f k)
unfolding gather
gather_in f [] x i = absurd i
gather_in f (k ∷ ks) x i = go (in_either x (f k) (gather f ks) i) (λ h. gather_in f ks x h)
  where
    go : (x ∈ f k) ⊎ (x ∈ gather f ks) → (x ∈ gather f ks → (j : ℕ) × (j ∈ ks) × (x ∈ f j)) → (j : ℕ) × (j ∈ (k ∷ ks)) × (x ∈ f j)
    go (inl h) below = (k, inl refl, h)
    go (inr h) below = let r = below h in (r.0, inr r.1, r.2)

pub in_gather : (f : ℕ → List ℤ) (ks : List ℕ) (x : ℤ) (k : ℕ) → k ∈ ks → x ∈ f k → x ∈ gather f ks
unfolding gather
in_gather f [] x k m i = absurd m
in_gather f (j ∷ ks) x k (inl e) i = in_left x (f j) (gather f ks) (subst (λ (y : ℕ). x ∈ f y) e i)
in_gather f (j ∷ ks) x k (inr m) i = in_right x (f j) (gather f ks) (in_gather f ks x k m i)

limit_in : (c : Choice) (f : ℕ → ℤ) (x : ℤ) → x ∈ limit c f → (k : ℕ) × (c ≡ one k) × (x ≡ f k)
limit_in none f x i = absurd i
limit_in (one k) f x (inl e) = (k, refl, e)
limit_in (one k) f x (inr i) = absurd i

-- under a test that drops all
drop_in : (b : Bool) (xs : List ℤ) (x : ℤ) → x ∈ cond b [] xs → (b ≡ false) × (x ∈ xs)
drop_in true xs x i = absurd i
drop_in false xs x i = (refl, i)

module _ (g : Network) (d : ℕ → ℤ) (t : Edges) (e : ℕ) where
  module _ (s i j : ℕ) where
    near : ℕ → Bool
    near f = (t f && not (is_required (g.mark f))) && touches g i f

    give : ℕ → Bool
    give f = is_giver g t e f && touches g i f

    limits₁ : List ℤ
    limits₁ = gather (replacement_cost g d t) (select near (up_to g.m))

    limits₂ : List ℤ
    limits₂ = cond (eqb j 1) [] (map (λ f. charge g d s -ℤ charge g d f) (select give (up_to g.m)))

    rise_limits_are : rise_limits g d t e s i j ≡ limits₁ ++ limits₂
    unfolding rise_limits limits₁ limits₂ near give
    rise_limits_are = refl

    of_rise : (x : ℤ) → x ∈ (limits₁ ++ limits₂) → ByReplacement g d t i x ⊎ ((j ≢ 1) × BySupport g d t e s i x)
    unfolding limits₁ limits₂ near give
    of_rise x m = go (in_either x limits₁ limits₂ m)
      where
        go : (x ∈ limits₁) ⊎ (x ∈ limits₂) → ByReplacement g d t i x ⊎ ((j ≢ 1) × BySupport g d t e s i x)
        go (inl h) =
            let a = gather_in (replacement_cost g d t) (select near (up_to g.m)) x h in
            let b = select_in near (up_to g.m) a.0 a.1 in
            let u = and_both (t a.0 && not (is_required (g.mark a.0))) (touches g i a.0) b.1 in
            let v = and_both (t a.0) (not (is_required (g.mark a.0))) u.0 in
            let l = limit_in (replacement g d t a.0) (λ r. charge g d r -ℤ charge g d a.0) x (unfold replacement_cost in a.2) in
            inl (record {
              f = a.0;
              listed = b.0;
              inside = v.0;
              loose = not_required (g.mark a.0) v.1;
              end = u.1;
              r = l.0;
              replacement = replacement_is g d t a.0 l.0 l.1;
              is = l.2;
            })
        go (inr h) =
            let a = drop_in (eqb j 1) (map (λ f. charge g d s -ℤ charge g d f) (select give (up_to g.m))) x h in
            let b = of_map (λ f. charge g d s -ℤ charge g d f) x (select give (up_to g.m)) a.1 in
            let l = select_in give (up_to g.m) b.0 b.1 in
            let u = and_both (is_giver g t e b.0) (touches g i b.0) l.1 in
            inr (eqb-false j 1 a.0, record { f = b.0; giver = (giver_test g t e b.0 l.0).0 u.0; end = u.1; is = b.2 })

    in_rise : (x : ℤ) → ByReplacement g d t i x ⊎ ((j ≢ 1) × BySupport g d t e s i x) → x ∈ (limits₁ ++ limits₂)
    unfolding limits₁ limits₂ near give
    in_rise x (inl p) =
        in_left x limits₁ limits₂
        (in_gather (replacement_cost g d t) (select near (up_to g.m)) x p.f
        (in_select near (up_to g.m) p.f p.listed (rw (p.inside, required_not (g.mark p.f) p.loose) p.end))
        (unfold replacement_cost in rw (is_replacement g d t p.f p.r p.replacement) (inl p.is)))
    in_rise x (inr (n, p)) =
        in_right x limits₁ limits₂
        (rw (ne_eqb j 1 n, p.is)
        (in_map (λ f. charge g d s -ℤ charge g d f) p.f (select give (up_to g.m))
        (in_select give (up_to g.m) p.f p.giver.listed (rw ((giver_test g t e p.f p.giver.listed).1 p.giver) p.end))))

    -- THE RISE of an end that is treated
    pub rise_is : IsSupport g d t e s → rises g t s i ≡ true → IsLeast (HoldsRise g d t e s i j) (rise g d t e i j)
    rise_is p r = record { itself = rw at (pick (at_most_in z xs)); least = λ x h. rw at (at_most-le z xs x (of x h)) }
      where
        z : ℤ
        z = pos max_multiplier -ℤ d i

        xs : List ℤ
        xs = limits₁ ++ limits₂

        at : rise g d t e i j ≡ at_most z xs
        at = unfold rise in rw (is_support g d t e s p, r, rise_limits_are)

        pick : (at_most z xs ≡ z) ⊎ (at_most z xs ∈ xs) → HoldsRise g d t e s i j (at_most z xs)
        pick (inl q) = inl q
        pick (inr q) = inr (of_rise (at_most z xs) q)

        of : (x : ℤ) → HoldsRise g d t e s i j x → (x ≡ z) ⊎ (x ∈ xs)
        of x (inl q) = inl q
        of x (inr q) = inr (in_rise x q)

    -- and of one that is not
    pub rise-not : IsSupport g d t e s → rises g t s i ≡ false → rise g d t e i j ≡ pos 0
    unfolding rise
    rise-not p r = rw (is_support g d t e s p, r)

  module _ (r i j : ℕ) where
    out : ℕ → Bool
    out h = (not (t h) && not (is_excluded (g.mark h))) && touches g i h

    accept : ℕ → Bool
    accept h = is_taker g t e h && touches g i h

    limits₃ : List ℤ
    limits₃ = gather (reduced_cost g d t) (select out (up_to g.m))

    limits₄ : List ℤ
    limits₄ = cond (eqb j 1) [] (map (λ h. charge g d h -ℤ charge g d r) (select accept (up_to g.m)))

    fall_limits_are : fall_limits g d t e r i j ≡ limits₃ ++ limits₄
    unfolding fall_limits limits₃ limits₄ out accept
    fall_limits_are = refl

    of_fall : (x : ℤ) → x ∈ (limits₃ ++ limits₄) → ByReduced g d t i x ⊎ ((j ≢ 1) × ByTaker g d t e r i x)
    unfolding limits₃ limits₄ out accept
    of_fall x m = go (in_either x limits₃ limits₄ m)
      where
        go : (x ∈ limits₃) ⊎ (x ∈ limits₄) → ByReduced g d t i x ⊎ ((j ≢ 1) × ByTaker g d t e r i x)
        go (inl h) =
            let a = gather_in (reduced_cost g d t) (select out (up_to g.m)) x h in
            let b = select_in out (up_to g.m) a.0 a.1 in
            let u = and_both (not (t a.0) && not (is_excluded (g.mark a.0))) (touches g i a.0) b.1 in
            let v = and_both (not (t a.0)) (not (is_excluded (g.mark a.0))) u.0 in
            let l = limit_in (support g d t a.0) (λ s. charge g d a.0 -ℤ charge g d s) x (unfold reduced_cost in a.2) in
            inl (record {
              h = a.0;
              listed = b.0;
              outside = not-true (t a.0) v.0;
              allowed = not_excluded (g.mark a.0) v.1;
              end = u.1;
              s = l.0;
              support = support_is g d t a.0 l.0 l.1;
              is = l.2;
            })
        go (inr h) =
            let a = drop_in (eqb j 1) (map (λ f. charge g d f -ℤ charge g d r) (select accept (up_to g.m))) x h in
            let b = of_map (λ f. charge g d f -ℤ charge g d r) x (select accept (up_to g.m)) a.1 in
            let l = select_in accept (up_to g.m) b.0 b.1 in
            let u = and_both (is_taker g t e b.0) (touches g i b.0) l.1 in
            inr (eqb-false j 1 a.0, record { h = b.0; taker = (taker_test g t e b.0 l.0).0 u.0; end = u.1; is = b.2 })

    in_fall : (x : ℤ) → ByReduced g d t i x ⊎ ((j ≢ 1) × ByTaker g d t e r i x) → x ∈ (limits₃ ++ limits₄)
    unfolding limits₃ limits₄ out accept
    in_fall x (inl p) =
        in_left x limits₃ limits₄
        (in_gather (reduced_cost g d t) (select out (up_to g.m)) x p.h
        (in_select out (up_to g.m) p.h p.listed (rw (p.outside, excluded_not (g.mark p.h) p.allowed) p.end))
        (unfold reduced_cost in rw (is_support g d t p.h p.s p.support) (inl p.is)))
    in_fall x (inr (n, p)) =
        in_right x limits₃ limits₄
        (rw (ne_eqb j 1 n, p.is)
        (in_map (λ f. charge g d f -ℤ charge g d r) p.h (select accept (up_to g.m))
        (in_select accept (up_to g.m) p.h p.taker.listed (rw ((taker_test g t e p.h p.taker.listed).1 p.taker) p.end))))

    -- THE FALL of an end that is treated
    pub fall_is : IsReplacement g d t e r → falls g t r i ≡ true → IsLeast (HoldsFall g d t e r i j) (fall g d t e i j)
    fall_is p f = record { itself = rw at (pick (at_most_in z xs)); least = λ x h. rw at (at_most-le z xs x (of x h)) }
      where
        z : ℤ
        z = d i +ℤ pos max_multiplier

        xs : List ℤ
        xs = limits₃ ++ limits₄

        at : fall g d t e i j ≡ at_most z xs
        at = unfold fall in rw (is_replacement g d t e r p, f, fall_limits_are)

        pick : (at_most z xs ≡ z) ⊎ (at_most z xs ∈ xs) → HoldsFall g d t e r i j (at_most z xs)
        pick (inl q) = inl q
        pick (inr q) = inr (of_fall (at_most z xs) q)

        of : (x : ℤ) → HoldsFall g d t e r i j x → (x ≡ z) ⊎ (x ∈ xs)
        of x (inl q) = inl q
        of x (inr q) = inr (in_fall x q)

    pub fall-not : IsReplacement g d t e r → falls g t r i ≡ false → fall g d t e i j ≡ pos 0
    unfolding fall
    fall-not p f = rw (is_replacement g d t e r p, f)
