-- THE RULINGS WITH LIFTED MULTIPLIERS over the active vertices are those of the reduced network, edge for edge: supports, replacements, and how far
-- an end moves are alike, since no touched edge is in a 1-tree, gives way to one or takes the place of one.
use Rattle.std.specs.Prelude.{◌≡◌, Bool, cond, ◌&&◌, ◌||◌, ◌++◌, map, ℕ, ◌≤◌, eqb, ℤ, neg_ℤ, ◌-ℤ◌, ◌+ℤ◌}
use Rattle.std.proofs.Math.Path.{refl, ap}
use Rattle.std.proofs.Common.{sym, ◌∙◌, ap₂, inl, inr, arith, true≢false, ne_eqb}
use Rattle.std.proofs.Math.Bool.{true, false, not}
use Rattle.std.proofs.Math.Decide.{dec_le}
use mathlib.Core.List.{List, [], ◌∷◌}
use Rattle.std.specs.Int.Signed.{lt_z}
use Rattle.lists.specs.Bools.{by_cases, and_both}
use Rattle.lists.specs.Members.{◌∈◌}
use Rattle.lists.specs.Select.{select, select_in, select_cong}
use Rattle.lists.specs.Numbers.{up_to, up_to_in, in_up_to}
use Rattle.lists.specs.Sets.{◌⊕◌, ◌⊖◌}
use Rattle.graph.specs.Network.{Network}
use Rattle.tree_theory.specs.OneTree.{Edges, charge}
use Rattle.tree_theory.specs.Enumeration.{Tree, no_tree, a_tree, least_tree, barred_b, forced_b}
use Rattle.tree_theory.specs.Enumeration.{Ruling, keeps, forces, bars, was_required, was_excluded, ruling}
use Rattle.tree_theory.specs.LeastTree.{Right, tree_right}
use Rattle.tree_theory.specs.Rulings.{rules_excluded}
use Rattle.tree_theory.specs.Scaled.{scaled_by}
use Rattle.tree_theory.specs.Valid.{is_required, is_excluded}
use Rattle.lifting.specs.Lifted.{touches, is_giver, is_taker, Choice, none, one, or_better, best, support, replacement, limit}
use Rattle.lifting.specs.Lifted.{reduced_cost, replacement_cost, gather, rise_limits, fall_limits, rises, falls}
use Rattle.lifting.specs.Lifted.{rise_by, fall_by, rise, fall, moved, raised, lowered, tried, retried, ruling_with}
use Rattle.lifting.specs.Agreeing.{gather_cong}
use Rattle.lifting.proofs.Rulings.{excluded_stays}
use Rattle.thinning.specs.Ranks.{rank, nth, nth_zero, nth_past, rank_in, rank_back}
use Rattle.afloat.specs.Over.{Ashore, active, touched, mark_over}
use Rattle.afloat.specs.LiftedOver.{charge_over, is_giver_over, is_taker_over, support_over, replacement_over, reduced_cost_over, replacement_cost_over}
use Rattle.afloat.specs.LiftedOver.{rise_limits_over, fall_limits_over, rise_by_over, fall_by_over, rise_over, fall_over, raised_over, lowered_over}
use Rattle.afloat.specs.LiftedOver.{tried_over, retried_over, ruling_with_over}
use Rattle.afloat.specs.Reduced.{reduced, reduced_multiplier, Fit, Live, live_back, live_one, live_eqb, nth_live}
use Rattle.afloat.specs.Reduced.{a_live, b_live, a_is, b_is, touched_excluded}
use Rattle.afloat.specs.Trees.{Untouched, taken_free, degree-reduced, charge-reduced}
use Rattle.afloat.specs.Scaling.{fit_scaled}
use Rattle.afloat.proofs.Decided.{test_reduced, tree-reduced, barred_reduced, forced_reduced, ruling-reduced}

-- ---- lists whose members are of some kind

guarded : (b x y : Bool) → (b ≡ true → x ≡ y) → b && x ≡ b && y
guarded true x y h = h refl
guarded false x y h = refl

map_same : (f h : ℕ → ℤ) (ks : List ℕ) → ((k : ℕ) → k ∈ ks → f k ≡ h k) → map f ks ≡ map h ks
map_same f h [] e = refl
map_same f h (k ∷ ks) e = rw (e k (inl refl), map_same f h ks (λ j i. e j (inr i)))

module _ (Kind : ℕ → Type 0) where
  -- what was chosen is of that kind
  abbrev Chose : Choice → Type 0
  Chose none = Unit {0}
  Chose (one k) = Kind k

  best_kind : (p : ℕ → ℕ → Bool) (ks : List ℕ) → ((k : ℕ) → k ∈ ks → Kind k) → Chose (best p ks)
  unfolding best
  best_kind p [] h = tt
  best_kind p (k ∷ ks) h = go (best p ks) (best_kind p ks (λ j i. h j (inr i)))
    where
      pick : (j : ℕ) (b : Bool) → Kind j → Kind (cond b k j)
      pick j true q = h k (inl refl)
      pick j false q = q

      go : (x : Choice) → Chose x → Chose (or_better p k x)
      go none q = h k (inl refl)
      go (one j) q = pick j (p k j) q

  best_same : (p q : ℕ → ℕ → Bool) → ((k j : ℕ) → Kind k → Kind j → p k j ≡ q k j)
      → (ks : List ℕ) → ((k : ℕ) → k ∈ ks → Kind k) → best p ks ≡ best q ks
  unfolding best
  best_same p q e [] h = refl
  best_same p q e (k ∷ ks) h =
      rw (best_same p q e ks (λ j i. h j (inr i))) (go (best q ks) (best_kind q ks (λ j i. h j (inr i))))
    where
      go : (x : Choice) → Chose x → or_better p k x ≡ or_better q k x
      go none z = refl
      go (one j) z = rw (e k j (h k (inl refl)) z)

  limit_same : (f h : ℕ → ℤ) → ((k : ℕ) → Kind k → f k ≡ h k) → (x : Choice) → Chose x → limit x f ≡ limit x h
  limit_same f h e none z = refl
  limit_same f h e (one k) z = rw (e k z)

module _ (s : Ashore) (g : Network) (f : Fit s g) where
  abbrev h : Network
  h = reduced s g

  -- an untouched edge of the network
  abbrev Free : ℕ → Type 0
  Free k = (k ∈ up_to g.m) × (touched s g k ≡ false)

  touches-reduced : (v k : ℕ) → Live s g f v → Free k → touches g v k ≡ touches h (rank (active s) v) k
  touches-reduced v k l q =
      sym (
      ap (λ (z : ℕ). eqb z (rank (active s) v) || eqb (h.b k) (rank (active s) v)) (a_is s g f k q.0 q.1)
      ∙ ap (λ (z : ℕ). eqb (rank (active s) (g.a k)) (rank (active s) v) || eqb z (rank (active s) v)) (b_is s g f k q.0 q.1)
      ∙ ap₂ ◌||◌ (live_eqb s g f (g.a k) v (a_live s g f k q.0 q.1) l) (live_eqb s g f (g.b k) v (b_live s g f k q.0 q.1) l)
      )

  -- an edge that may be taken is untouched
  may_free : (k : ℕ) → k ∈ up_to g.m → not (is_excluded (h.mark k)) ≡ true → Free k
  may_free k i e = (
    i,
    by_cases (touched s g k)
        (λ q. absurd (true≢false (sym e ∙ ap (λ x. not (is_excluded x)) (touched_excluded s g f k i q)))) (λ q. q),
  )

  module _ (t : Edges) (free : Untouched s g t) (d : ℕ → ℤ) where
    abbrev δ : ℕ → ℤ
    δ = reduced_multiplier s g.n d

    charge-there : (k : ℕ) → Free k → charge_over s g d k ≡ charge h δ k
    unfolding charge_over
    charge-there k q = charge-reduced s g f d k q.0 q.1

    -- ---- supports and replacements

    giver-reduced : (e k : ℕ) → is_giver_over s g t e k ≡ is_giver h t e k
    unfolding is_giver_over is_giver
    giver-reduced e k = ap (λ (b : Bool). t k && not (is_required (mark_over s g k)) && b) (test_reduced s g f (t ⊖ k ⊕ e))

    taker-reduced : (e k : ℕ) → is_taker_over s g t e k ≡ is_taker h t e k
    unfolding is_taker_over is_taker
    taker-reduced e k = ap (λ (b : Bool). not (t k) && not (is_excluded (mark_over s g k)) && b) (test_reduced s g f (t ⊖ e ⊕ k))

    giver_free : (e k : ℕ) → k ∈ up_to g.m → is_giver h t e k ≡ true → Free k
    unfolding is_giver
    giver_free e k i z = (i, taken_free s g f t free k i (and_both (t k) _ (and_both _ _ z).0).0)

    taker_free : (e k : ℕ) → k ∈ up_to g.m → is_taker h t e k ≡ true → Free k
    unfolding is_taker
    taker_free e k i z = may_free k i (and_both (not (t k)) _ (and_both _ _ z).0).1

    givers_free : (e k : ℕ) → k ∈ select (is_giver h t e) (up_to g.m) → Free k
    givers_free e k i = let r = select_in (is_giver h t e) (up_to g.m) k i in giver_free e k r.0 r.1

    takers_free : (e k : ℕ) → k ∈ select (is_taker h t e) (up_to g.m) → Free k
    takers_free e k i = let r = select_in (is_taker h t e) (up_to g.m) k i in taker_free e k r.0 r.1

    support-reduced : (e : ℕ) → support_over s g d t e ≡ support h δ t e
    unfolding support_over support
    support-reduced e =
        ap (best _) (select_cong (is_giver_over s g t e) (is_giver h t e) (up_to g.m) (λ k i. giver-reduced e k))
        ∙ best_same Free _ _ (λ k j p q. ap₂ lt_z (charge-there j q) (charge-there k p)) (select (is_giver h t e) (up_to g.m)) (givers_free e)

    support_free : (e : ℕ) → Chose Free (support h δ t e)
    unfolding support
    support_free e = best_kind Free _ (select (is_giver h t e) (up_to g.m)) (givers_free e)

    replacement-reduced : (e : ℕ) → replacement_over s g d t e ≡ replacement h δ t e
    unfolding replacement_over replacement
    replacement-reduced e =
        ap (best _) (select_cong (is_taker_over s g t e) (is_taker h t e) (up_to g.m) (λ k i. taker-reduced e k))
        ∙ best_same Free _ _ (λ k j p q. ap₂ lt_z (charge-there k p) (charge-there j q)) (select (is_taker h t e) (up_to g.m)) (takers_free e)

    replacement_free : (e : ℕ) → Chose Free (replacement h δ t e)
    unfolding replacement
    replacement_free e = best_kind Free _ (select (is_taker h t e) (up_to g.m)) (takers_free e)

    apart-there : (k j : ℕ) → Free k → Free j → charge_over s g d k -ℤ charge_over s g d j ≡ charge h δ k -ℤ charge h δ j
    apart-there k j p q = ap₂ ◌-ℤ◌ (charge-there k p) (charge-there j q)

    reduced_cost-there : (e : ℕ) → Free e → reduced_cost_over s g d t e ≡ reduced_cost h δ t e
    unfolding reduced_cost_over reduced_cost
    reduced_cost-there e q =
        ap (λ (x : Choice). limit x (λ p. charge_over s g d e -ℤ charge_over s g d p)) (support-reduced e)
        ∙ limit_same Free _ _ (λ k z. apart-there e k q z) (support h δ t e) (support_free e)

    replacement_cost-there : (e : ℕ) → Free e → replacement_cost_over s g d t e ≡ replacement_cost h δ t e
    unfolding replacement_cost_over replacement_cost
    replacement_cost-there e q =
        ap (λ (x : Choice). limit x (λ r. charge_over s g d r -ℤ charge_over s g d e)) (replacement-reduced e)
        ∙ limit_same Free _ _ (λ k z. apart-there k e z q) (replacement h δ t e) (replacement_free e)

    -- ---- how far an end moves

    rises-reduced : (p i : ℕ) → Free p → Live s g f i → rises g t p i ≡ rises h t p (rank (active s) i)
    unfolding rises
    rises-reduced p i q l = rw (live_one s g f i l, touches-reduced i p l q, degree-reduced s g f t free i l)

    falls-reduced : (r i : ℕ) → Free r → Live s g f i → falls g t r i ≡ falls h t r (rank (active s) i)
    unfolding falls
    falls-reduced r i q l = rw (live_one s g f i l, touches-reduced i r l q, degree-reduced s g f t free i l)

    module _ (e i j : ℕ) (qe : Free e) (li : Live s g f i) (lj : Live s g f j) where
      -- the edges at an end, of those that are untouched
      at_end : (x y : ℕ → Bool) → ((k : ℕ) → x k ≡ y k) → ((k : ℕ) → k ∈ up_to g.m → y k ≡ true → Free k)
          → select (λ k. x k && touches g i k) (up_to g.m) ≡ select (λ k. y k && touches h (rank (active s) i) k) (up_to g.m)
      at_end x y same only =
          select_cong _ _ (up_to g.m) (λ k m.
          ap (λ (b : Bool). b && touches g i k) (same k)
          ∙ guarded (y k) (touches g i k) (touches h (rank (active s) i) k) (λ z. touches-reduced i k li (only k m z)))

      listed : (y : ℕ → Bool) → ((k : ℕ) → k ∈ up_to g.m → y k ≡ true → Free k)
          → (k : ℕ) → k ∈ select (λ k. y k && touches h (rank (active s) i) k) (up_to g.m) → Free k
      listed y only k m =
          let r = select_in (λ k. y k && touches h (rank (active s) i) k) (up_to g.m) k m in only k r.0 (and_both (y k) _ r.1).0

      abbrev gives : ℕ → Bool
      gives k = t k && not (is_required (h.mark k))

      abbrev takes : ℕ → Bool
      takes k = not (t k) && not (is_excluded (h.mark k))

      gives_free : (k : ℕ) → k ∈ up_to g.m → gives k ≡ true → Free k
      gives_free k m z = (m, taken_free s g f t free k m (and_both (t k) _ z).0)

      takes_free : (k : ℕ) → k ∈ up_to g.m → takes k ≡ true → Free k
      takes_free k m z = may_free k m (and_both (not (t k)) _ z).1

      rise_limits-reduced : (p : ℕ) → Free p
          → rise_limits_over s g d t e p i j ≡ rise_limits h δ t e p (rank (active s) i) (rank (active s) j)
      unfolding rise_limits_over rise_limits
      rise_limits-reduced p q =
          ap₂ ◌++◌
          (ap (gather (replacement_cost_over s g d t)) (at_end gives gives (λ k. refl) gives_free)
          ∙ gather_cong (replacement_cost_over s g d t) (replacement_cost h δ t) _ (λ k m. replacement_cost-there k (listed gives gives_free k m)))
          (ap₂ (λ (b : Bool) (xs : List ℤ). cond b [] xs) (sym (live_one s g f j lj))
          (ap (map _) (at_end (is_giver_over s g t e) (is_giver h t e) (giver-reduced e) (giver_free e))
          ∙ map_same _ _ _ (λ k m. apart-there p k q (listed (is_giver h t e) (giver_free e) k m))))

      fall_limits-reduced : (r : ℕ) → Free r
          → fall_limits_over s g d t e r i j ≡ fall_limits h δ t e r (rank (active s) i) (rank (active s) j)
      unfolding fall_limits_over fall_limits
      fall_limits-reduced r q =
          ap₂ ◌++◌
          (ap (gather (reduced_cost_over s g d t)) (at_end takes takes (λ k. refl) takes_free)
          ∙ gather_cong (reduced_cost_over s g d t) (reduced_cost h δ t) _ (λ k m. reduced_cost-there k (listed takes takes_free k m)))
          (ap₂ (λ (b : Bool) (xs : List ℤ). cond b [] xs) (sym (live_one s g f j lj))
          (ap (map _) (at_end (is_taker_over s g t e) (is_taker h t e) (taker-reduced e) (taker_free e))
          ∙ map_same _ _ _ (λ k m. apart-there k r (listed (is_taker h t e) (taker_free e) k m) q)))

      here : d i ≡ δ (rank (active s) i)
      here = ap d (sym (live_back s g f i li))

      rise-reduced : rise_over s g d t e i j ≡ rise h δ t e (rank (active s) i) (rank (active s) j)
      unfolding rise_over rise
      rise-reduced = ap (rise_by_over s g d t e i j) (support-reduced e) ∙ go (support h δ t e) (support_free e)
        where
          go : (x : Choice) → Chose Free x → rise_by_over s g d t e i j x ≡ rise_by h δ t e (rank (active s) i) (rank (active s) j) x
          go none q = refl
          go (one p) q = rw (rises-reduced p i q li, rise_limits-reduced p q, here)

      fall-reduced : fall_over s g d t e i j ≡ fall h δ t e (rank (active s) i) (rank (active s) j)
      unfolding fall_over fall
      fall-reduced = ap (fall_by_over s g d t e i j) (replacement-reduced e) ∙ go (replacement h δ t e) (replacement_free e)
        where
          go : (x : Choice) → Chose Free x → fall_by_over s g d t e i j x ≡ fall_by h δ t e (rank (active s) i) (rank (active s) j) x
          go none q = refl
          go (one r) q = rw (falls-reduced r i q li, fall_limits-reduced r q, here)

    -- ---- the lifted multipliers

    -- a new number's vertex is a live vertex only where the new number is its own
    nth_eqb : (u v : ℕ) → Live s g f v → eqb (nth (active s) g.n u) v ≡ eqb u (rank (active s) v)
    nth_eqb u v l = go (dec_le 1 u) (dec_le u (rank (active s) g.n))
      where
        r : (1 ≤ rank (active s) v) × (rank (active s) v ≤ rank (active s) g.n)
        r = in_up_to (rank (active s) g.n) (rank (active s) v) (rank_in (active s) g.n v l.0 l.1)

        none_there : nth (active s) g.n u ≡ 0 → ¬ (u ≡ rank (active s) v) → eqb (nth (active s) g.n u) v ≡ eqb u (rank (active s) v)
        none_there z other =
            ne_eqb (nth (active s) g.n u) v (λ q. omega (arith, z, q, (in_up_to g.n v l.0).0)) ∙ sym (ne_eqb u (rank (active s) v) other)

        go : Dec (1 ≤ u) → Dec (u ≤ rank (active s) g.n) → eqb (nth (active s) g.n u) v ≡ eqb u (rank (active s) v)
        go (yes p) (yes q) =
            let i = up_to_in (rank (active s) g.n) u p q in
            sym (live_eqb s g f (nth (active s) g.n u) v (nth_live s g f u i) l)
            ∙ ap (λ (w : ℕ). eqb w (rank (active s) v)) (rank_back (active s) g.n u i)
        go (no p) z = none_there (ap (nth (active s) g.n) (omega arith) ∙ nth_zero (active s) g.n) (λ q. omega (arith, q, r.0))
        go (yes p) (no q) = none_there (nth_past (active s) g.n u (omega arith)) (λ e. omega (arith, e, r.1))

    moved-reduced : (e : ℕ) → Free e → (x y : ℤ) → reduced_multiplier s g.n (moved d (g.a e) (g.b e) x y) ≡ moved δ (h.a e) (h.b e) x y
    unfolding moved
    moved-reduced e q x y = λ i u. at u i
      where
        move : Bool → Bool → ℕ → ℤ
        move p r u = cond p (δ u +ℤ x) (cond r (δ u +ℤ y) (δ u))

        end_is : (u v j : ℕ) → Live s g f v → j ≡ rank (active s) v → eqb (nth (active s) g.n u) v ≡ eqb u j
        end_is u v j l w = nth_eqb u v l ∙ ap (eqb u) (sym w)

        at : (u : ℕ) → moved d (g.a e) (g.b e) x y (nth (active s) g.n u) ≡ moved δ (h.a e) (h.b e) x y u
        at u =
            ap₂ (λ (p r : Bool). move p r u) (end_is u (g.a e) (h.a e) (a_live s g f e q.0 q.1) (a_is s g f e q.0 q.1))
            (end_is u (g.b e) (h.b e) (b_live s g f e q.0 q.1) (b_is s g f e q.0 q.1))

    module _ (e : ℕ) (q : Free e) where
      ends_are : (x : ℕ → ℕ → ℤ) → x (rank (active s) (g.a e)) (rank (active s) (g.b e)) ≡ x (h.a e) (h.b e)
      ends_are x = sym (ap₂ x (a_is s g f e q.0 q.1) (b_is s g f e q.0 q.1))

      -- as functions of new numbers
      pub raised-reduced : reduced_multiplier s g.n (raised_over s g d t e) ≡ raised h δ t e
      unfolding raised_over raised
      raised-reduced =
          let la = a_live s g f e q.0 q.1 in
          let lb = b_live s g f e q.0 q.1 in
          moved-reduced e q (rise_over s g d t e (g.a e) (g.b e)) (rise_over s g d t e (g.b e) (g.a e))
          ∙ ap₂ (moved δ (h.a e) (h.b e))
          (rise-reduced e (g.a e) (g.b e) q la lb ∙ ends_are (rise h δ t e))
          (rise-reduced e (g.b e) (g.a e) q lb la ∙ ends_are (λ a b. rise h δ t e b a))

      pub lowered-reduced : reduced_multiplier s g.n (lowered_over s g d t e) ≡ lowered h δ t e
      unfolding lowered_over lowered
      lowered-reduced =
          let la = a_live s g f e q.0 q.1 in
          let lb = b_live s g f e q.0 q.1 in
          moved-reduced e q (neg_ℤ (fall_over s g d t e (g.a e) (g.b e))) (neg_ℤ (fall_over s g d t e (g.b e) (g.a e)))
          ∙ ap₂ (moved δ (h.a e) (h.b e))
          (ap neg_ℤ (fall-reduced e (g.a e) (g.b e) q la lb ∙ ends_are (fall h δ t e)))
          (ap neg_ℤ (fall-reduced e (g.b e) (g.a e) q lb la ∙ ends_are (λ a b. fall h δ t e b a)))

      tried-reduced : (ceiling : ℤ) (b : Bool) → tried_over s g d ceiling e t b ≡ tried h δ ceiling e t b
      tried-reduced ceiling false =
          ap (λ (b : Bool). cond b bars keeps)
          (barred_reduced s g f (raised_over s g d t e) ceiling e ∙ ap (λ (x : ℕ → ℤ). barred_b h x ceiling e) raised-reduced)
      tried-reduced ceiling true =
          ap (λ (b : Bool). cond b forces keeps)
          (forced_reduced s g f (lowered_over s g d t e) ceiling e ∙ ap (λ (x : ℕ → ℤ). forced_b h x ceiling e) lowered-reduced)

  -- ---- the rulings

  module _ (d : ℕ → ℤ) (ceiling : ℤ) (k : ℕ) (i : k ∈ up_to g.m) where
    -- a kept edge is untouched
    pub keeps_free : ruling h (reduced_multiplier s g.n d) ceiling k ≡ keeps → Free k
    keeps_free e = (i, by_cases (touched s g k) (λ q. absurd (apart q)) (λ q. q))
      where
        apart : touched s g k ≡ true → ⊥
        apart q =
            let z : was_excluded ≡ keeps =
            sym (rules_excluded h (reduced_multiplier s g.n d) ceiling k i (touched_excluded s g f k i q)) ∙ e in
            let y : true ≡ false = cc in true≢false y

    retried-reduced : (x : Tree) → Right h (reduced_multiplier s g.n d) x
        → retried_over s g d ceiling k x (ruling h (reduced_multiplier s g.n d) ceiling k)
        ≡ retried h (reduced_multiplier s g.n d) ceiling k x (ruling h (reduced_multiplier s g.n d) ceiling k)
    retried-reduced no_tree z = refl
    retried-reduced (a_tree b t) z = go (ruling h (reduced_multiplier s g.n d) ceiling k) refl
      where
        free : Untouched s g t
        free j m e = z.1.tree.avoids j m (touched_excluded s g f j m e)

        go : (r : Ruling) → ruling h (reduced_multiplier s g.n d) ceiling k ≡ r
            → retried_over s g d ceiling k (a_tree b t) r ≡ retried h (reduced_multiplier s g.n d) ceiling k (a_tree b t) r
        go keeps e = tried-reduced t free d k (keeps_free e) ceiling (t k)
        go forces e = refl
        go bars e = refl
        go was_required e = refl
        go was_excluded e = refl

    -- THE RULINGS, with lifting or without
    pub ruling_with-reduced : (lifting : Bool)
        → ruling_with_over lifting s g d ceiling k ≡ ruling_with lifting h (reduced_multiplier s g.n d) ceiling k
    unfolding ruling_with_over ruling_with
    ruling_with-reduced false = ruling-reduced s g f d ceiling k
    ruling_with-reduced true =
        ap₂ (retried_over s g d ceiling k) (tree-reduced s g f d) (ruling-reduced s g f d ceiling k)
        ∙ retried-reduced (least_tree h (reduced_multiplier s g.n d)) (tree_right h (reduced_multiplier s g.n d))

    -- "A leg touching such a buoy counts as struck, whatever its mark": its ruling is 'already struck', with lifting too
    pub ruling_with-touched : (lifting : Bool) → touched s g k ≡ true → ruling_with_over lifting s g d ceiling k ≡ was_excluded
    ruling_with-touched lifting e =
        ruling_with-reduced lifting ∙ excluded_stays lifting h (reduced_multiplier s g.n d) ceiling k (touched_excluded s g f k i e)

-- WITH A DENOMINATOR (C-17): at q times the costs, for every q
pub ruling_with-scaled : (q : ℕ) (s : Ashore) (g : Network) → Fit s g → (d : ℕ → ℤ) (ceiling : ℤ) (k : ℕ) → k ∈ up_to g.m → (lifting : Bool)
    → ruling_with_over lifting s (scaled_by q g) d ceiling k ≡ ruling_with lifting (scaled_by q (reduced s g)) (reduced_multiplier s g.n d) ceiling k
ruling_with-scaled q s g f d ceiling k i lifting = ruling_with-reduced s (scaled_by q g) (fit_scaled q s g f) d ceiling k i lifting
