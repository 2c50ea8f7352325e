-- The fast formulas of source document 000, as theorems about the definition in Lifted, for every ceiling: under the lifted multipliers an edge
-- outside a minimal 1-tree t is barred exactly when the ceiling is below bound(t) + its reduced cost + the sum of v · (degree − 1) over its ends,
-- and an edge of t forced exactly when it is below bound(t) + its replacement cost + the sum of v · (3 − degree), v being how far the end moves.
-- And an edge without a support is barred already, one without a replacement forced.
use Rattle.std.specs.Prelude.{◌≡◌, refl, ◌≢◌, ◌↔◌, ◌⊎◌, true, false, eqb, ℤ, pos, negsuc, neg_ℤ, ◌+ℤ◌, ◌-ℤ◌, ◌*ℤ◌, ◌≤ℤ◌, ◌<ℤ◌}
use Rattle.std.proofs.Common.{sym, ap, ◌∙◌, subst, inl, inr, true≢false, arith}
use Prim.Native.Nat.{ℕ, ◌+◌, ◌*◌, ◌<◌}
use Rattle.std.proofs.Math.Decide.{ℕ_discrete}
use borrow.Author.Tests.{eqb-true, eq-eqb, ne_eqb}
use Rattle.lists.specs.Bools.{by_cases, or_left}
use Rattle.lists.specs.Members.{◌∈◌}
use Rattle.lists.specs.Numbers.{up_to}
use Rattle.lists.specs.Sets.{◌⊕◌, ◌⊖◌}
use Rattle.integers.specs.Parts.{up, dn, add_parts, le_parts, parts_le}
use Rattle.integers.specs.Differences.{sub_parts}
use Rattle.integers.specs.Range.{InRange}
use Rattle.graph.specs.Limits.{max_multiplier}
use Rattle.graph.specs.Network.{Network, required}
use Rattle.tree_theory.specs.OneTree.{Edges, OneTree, charge, bound, Barred, Forced}
use Rattle.tree_theory.specs.Valid.{Valid, is_required, is_excluded, is_near, needed}
use Rattle.tree_theory.specs.Optimal.Bound.{Shifted}
use Rattle.tree_theory.specs.Optimal.Exchange.{Minimal}
use Rattle.tree_theory.specs.Optimal.Criteria.{MaySwap, Place, tree_swap}
use Rattle.swaps.specs.Slack.{SlackIs}
use Rattle.tours.specs.Tours.{degree}
use Rattle.lifting.specs.Lifted.{touches, Choice, none, one, support, replacement, rises, falls, rise, fall, moved, raised, lowered}
use Rattle.lifting.specs.Plain.{Giver, Taker, IsSupport, IsReplacement, HoldsRise, HoldsFall}
use Rattle.lifting.specs.Chosen.{no_support, no_replacement, support_is, replacement_is, rise_is, rise-not, fall_is, fall-not}
use Rattle.lifting.specs.Local.{minimal_charges}
use Rattle.lifting.specs.Changed.{Changed}
use Rattle.lifting.specs.Supports.{Support, Replacement}
use Rattle.lifting.specs.Moves.{Alone, MayRise, MayFall, ends_apart, touches-first, touches-second, raised_barred, lowered_forced}
use Rattle.lifting.specs.InNumbers.{raised-number, lowered-number}
use Rattle.lifting.specs.Allowed.{UpToReplacement, UpToReduced, rise-up_to, fall-up_to, rise_none, fall_none, unsupported, irreplaceable, end_of}

-- ---- numbers

not-below : (v : ℤ) → pos 0 ≤ℤ v → v ≡ pos (up v)
not-below (pos n) h = refl
not-below (negsuc n) h = absurd (omega (arith, le_parts (pos 0) (negsuc n) h))

-- v ≤ q − p
within_diff : (v p q : ℤ) (x : ℕ) → v ≡ pos x → v ≤ℤ (q -ℤ p) → (p +ℤ pos x) ≤ℤ q
within_diff v p q x e h =
    parts_le (p +ℤ pos x) q (omega (arith, ap up e, ap dn e, le_parts v (q -ℤ p) h, sub_parts q p, add_parts p (pos x)))

diff_up : (v p q : ℤ) → v ≡ q -ℤ p → p ≤ℤ q → pos 0 ≤ℤ v
diff_up v p q e h = parts_le (pos 0) v (omega (arith, ap up e, ap dn e, le_parts p q h, sub_parts q p))

-- the room that is left to the end of the range
room-above : (v z : ℤ) (n : ℕ) → v ≡ pos n -ℤ z → InRange n z → pos 0 ≤ℤ v
room-above v z n e r = parts_le (pos 0) v (omega (arith, ap up e, ap dn e, r.high, sub_parts (pos n) z))

room-below : (v z : ℤ) (n : ℕ) → v ≡ z +ℤ pos n → InRange n z → pos 0 ≤ℤ v
room-below v z n e r = parts_le (pos 0) v (omega (arith, ap up e, ap dn e, r.low, add_parts z (pos n)))

-- ---- swaps

not-needed : (g : Network) (k : ℕ) → needed g k ≡ false → g.mark k ≢ required
not-needed g k h e = true≢false (ap is_required (sym e) ∙ h)

module _ (g : Network) (vg : Valid g) (d : ℕ → ℤ) (t : Edges) (l : Minimal g d t) where
  module _ (f h : ℕ) (mf : f ∈ up_to g.m) (mh : h ∈ up_to g.m) (tf : t f ≡ true) (th : t h ≡ false) where
    pub tree_may : OneTree g (t ⊖ f ⊕ h) → MaySwap g t f h
    tree_may = (tree_swap g vg t l.tree f h mf mh tf th).1

    pub may_giver : MaySwap g t f h → Giver g t h f
    may_giver m = record {
      listed = mf;
      inside = tf;
      loose = λ e. true≢false (ap is_required (sym e) ∙ m.loose);
      tree = (tree_swap g vg t l.tree f h mf mh tf th).0 m;
    }

    pub may_taker : MaySwap g t f h → Taker g t f h
    may_taker m = record {
      listed = mh;
      outside = th;
      allowed = λ e. true≢false (ap is_excluded (sym e) ∙ m.allowed);
      tree = (tree_swap g vg t l.tree f h mf mh tf th).0 m;
    }

  pub support_of : (e s : ℕ) → e ∈ up_to g.m → t e ≡ false → IsSupport g d t e s → Support g d t e s
  support_of e s me te p = record {
    listed = p.giver.listed;
    inside = p.giver.inside;
    may = tree_may s e p.giver.listed me p.giver.inside te p.giver.tree;
    most = λ f mf tf m. p.dearest f (may_giver f e mf me tf te m);
  }

  pub replacement_of : (e r : ℕ) → e ∈ up_to g.m → t e ≡ true → IsReplacement g d t e r → Replacement g d t e r
  replacement_of e r me te p = record {
    listed = p.taker.listed;
    outside = p.taker.outside;
    may = tree_may e r me p.taker.listed te p.taker.outside p.taker.tree;
    least = λ f mf tf m. p.cheapest f (may_taker e f me mf te tf m);
  }

  -- ---- where there is none

  pub unsupported_barred : (z : ℤ) (e : ℕ) → e ∈ up_to g.m → t e ≡ false → support g d t e ≡ none → Barred g d z e
  unsupported_barred z e me te n =
      unsupported g d t vg l z e me te (λ f mf tf m. no_support g d t e n f (may_giver f e mf me tf te m))

  pub irreplaceable_forced : (z : ℤ) (e : ℕ) → e ∈ up_to g.m → t e ≡ true → replacement g d t e ≡ none → Forced g d z e
  irreplaceable_forced z e me te n =
      irreplaceable g d t vg l z e me te (λ f mf tf m. no_replacement g d t e n f (may_taker e f me mf te tf m))

  -- A KEPT EDGE HAS A SUPPORT, or in t a replacement
  pub kept-support : (z : ℤ) (e : ℕ) → e ∈ up_to g.m → t e ≡ false → ¬ Barred g d z e → (s : ℕ) × IsSupport g d t e s
  kept-support z e me te nb = go (support g d t e) refl
    where
      go : (c : Choice) → support g d t e ≡ c → (s : ℕ) × IsSupport g d t e s
      go none h = absurd (nb (unsupported_barred z e me te h))
      go (one s) h = (s, support_is g d t e s h)

  pub kept-replacement : (z : ℤ) (e : ℕ) → e ∈ up_to g.m → t e ≡ true → ¬ Forced g d z e → (r : ℕ) × IsReplacement g d t e r
  kept-replacement z e me te nf = go (replacement g d t e) refl
    where
      go : (c : Choice) → replacement g d t e ≡ c → (r : ℕ) × IsReplacement g d t e r
      go none h = absurd (nf (irreplaceable_forced z e me te h))
      go (one r) h = (r, replacement_is g d t e r h)

  -- ---- the change of one end

  -- an edge at buoy 1 that changes places with e, and at e's other end, is e
  one_place : (e f i j : ℕ) → e ∈ up_to g.m → touches g j e ≡ true → j ≡ 1 → Place g t f e → touches g j f ≡ true
  one_place e f i j me te q p = go p
    where
      e-near : is_near g e ≡ true
      e-near = pick (end_of g j e te)
        where
          pick : (g.a e ≡ j) ⊎ (g.b e ≡ j) → is_near g e ≡ true
          pick (inl h) = eq-eqb (g.a e) 1 (h ∙ q)
          pick (inr h) = absurd (omega (arith, vg.low e me, vg.apart e me))

      go : Place g t f e → touches g j f ≡ true
      go (inl h) = or_left (eqb (g.a f) j) (eqb (g.b f) j) (eq-eqb (g.a f) j (eqb-true (g.a f) 1 h.0 ∙ sym q))
      go (inr h) = absurd (true≢false (sym e-near ∙ h.1))

  place_back : (e f j : ℕ) → f ∈ up_to g.m → e ∈ up_to g.m → touches g j e ≡ true → j ≡ 1 → Place g t e f → touches g j f ≡ true
  place_back e f j mf me te q p = go p
    where
      e-near : is_near g e ≡ true
      e-near = pick (end_of g j e te)
        where
          pick : (g.a e ≡ j) ⊎ (g.b e ≡ j) → is_near g e ≡ true
          pick (inl h) = eq-eqb (g.a e) 1 (h ∙ q)
          pick (inr h) = absurd (omega (arith, vg.low e me, vg.apart e me))

      go : Place g t e f → touches g j f ≡ true
      go (inl h) = or_left (eqb (g.a f) j) (eqb (g.b f) j) (eq-eqb (g.a f) j (eqb-true (g.a f) 1 h.1 ∙ sym q))
      go (inr h) = absurd (true≢false (sym e-near ∙ h.0))

  module _ (e : ℕ) (me : e ∈ up_to g.m) (i j : ℕ) (joint : (f : ℕ) → f ∈ up_to g.m → touches g i f ≡ true → touches g j f ≡ true → f ≡ e)
      (other : touches g j e ≡ true) (range : InRange max_multiplier (d i)) where
    -- OUTSIDE t
    module _ (te : t e ≡ false) (s : ℕ) (p : IsSupport g d t e s) where
      rise-up : pos 0 ≤ℤ rise g d t e i j
      rise-up = by_cases (rises g t s i) (λ r. go (rise_is g d t e s i j p r).itself) (λ r. rw (rise-not g d t e s i j p r) (parts_le (pos 0) (pos 0) (omega arith)))
        where
          go : HoldsRise g d t e s i j (rise g d t e i j) → pos 0 ≤ℤ rise g d t e i j
          go (inl q) = room-above (rise g d t e i j) (d i) max_multiplier q range
          go (inr (inl q)) =
              let k : Taker g t q.f q.r = q.replacement.taker in
              diff_up (rise g d t e i j) (charge g d q.f) (charge g d q.r) q.is
              (minimal_charges g vg d t l q.f q.r q.listed k.listed q.inside k.outside
              (tree_may q.f q.r q.listed k.listed q.inside k.outside k.tree))
          go (inr (inr (n, q))) = diff_up (rise g d t e i j) (charge g d q.f) (charge g d s) q.is (p.dearest q.f q.giver)

      pub rise-number : rise g d t e i j ≡ pos (up (rise g d t e i j))
      rise-number = not-below (rise g d t e i j) rise-up

      pub may_rise : MayRise g d t e s i (up (rise g d t e i j))
      may_rise = by_cases (rises g t s i) treated (λ r. rw (rise-not g d t e s i j p r) (rise_none g d t vg l e s i (support_of e s me te p)))
        where
          x : ℕ
          x = up (rise g d t e i j)

          treated : rises g t s i ≡ true → MayRise g d t e s i x
          treated r = rise-up_to g d t e s i x replaced supported
            where
              least : (z : ℤ) → HoldsRise g d t e s i j z → rise g d t e i j ≤ℤ z
              least = (rise_is g d t e s i j p r).least

              replaced : (f : ℕ) → f ∈ up_to g.m → t f ≡ true → touches g i f ≡ true → UpToReplacement g d t x f
              replaced f mf tf k = by_cases (needed g f) (λ n. inl (λ h mh th m. true≢false (sym n ∙ m.loose))) (λ n. go n (replacement g d t f) refl)
                where
                  go : needed g f ≡ false → (c : Choice) → replacement g d t f ≡ c → UpToReplacement g d t x f
                  go n none q = inl (λ h mh th m. no_replacement g d t f q h (may_taker f h mf mh tf th m))
                  go n (one y) q =
                      let w : IsReplacement g d t f y = replacement_is g d t f y q in
                      inr (
                        y,
                        replacement_of f y mf tf w,
                        within_diff (rise g d t e i j) (charge g d f) (charge g d y) x rise-number
                            (least (charge g d y -ℤ charge g d f) (inr (inl (record {
                              f = f;
                              listed = mf;
                              inside = tf;
                              loose = not-needed g f n;
                              end = k;
                              r = y;
                              replacement = w;
                              is = refl;
                            })))),
                      )

              supported : (f : ℕ) → f ∈ up_to g.m → t f ≡ true → touches g i f ≡ true → MaySwap g t f e → (charge g d f +ℤ pos x) ≤ℤ charge g d s
              supported f mf tf k m = go (ℕ_discrete j 1)
                where
                  go : Dec (j ≡ 1) → (charge g d f +ℤ pos x) ≤ℤ charge g d s
                  go (yes q) = absurd (true≢false (sym tf ∙ ap t (joint f mf k (one_place e f i j me other q m.place)) ∙ te))
                  go (no q) =
                      within_diff (rise g d t e i j) (charge g d f) (charge g d s) x rise-number
                      (least (charge g d s -ℤ charge g d f) (inr (inr (q, record { f = f; giver = may_giver f e mf me tf te m; end = k; is = refl }))))

    -- IN t
    module _ (te : t e ≡ true) (r : ℕ) (p : IsReplacement g d t e r) where
      fall-up : pos 0 ≤ℤ fall g d t e i j
      fall-up = by_cases (falls g t r i) (λ q. go (fall_is g d t e r i j p q).itself) (λ q. rw (fall-not g d t e r i j p q) (parts_le (pos 0) (pos 0) (omega arith)))
        where
          go : HoldsFall g d t e r i j (fall g d t e i j) → pos 0 ≤ℤ fall g d t e i j
          go (inl q) = room-below (fall g d t e i j) (d i) max_multiplier q range
          go (inr (inl q)) =
              let k : Giver g t q.h q.s = q.support.giver in
              diff_up (fall g d t e i j) (charge g d q.s) (charge g d q.h) q.is
              (minimal_charges g vg d t l q.s q.h k.listed q.listed k.inside q.outside
              (tree_may q.s q.h k.listed q.listed k.inside q.outside k.tree))
          go (inr (inr (n, q))) = diff_up (fall g d t e i j) (charge g d r) (charge g d q.h) q.is (p.cheapest q.h q.taker)

      pub fall-number : fall g d t e i j ≡ pos (up (fall g d t e i j))
      fall-number = not-below (fall g d t e i j) fall-up

      pub may_fall : MayFall g d t e r i (up (fall g d t e i j))
      may_fall = by_cases (falls g t r i) treated (λ q. rw (fall-not g d t e r i j p q) (fall_none g d t vg l e r i (replacement_of e r me te p)))
        where
          x : ℕ
          x = up (fall g d t e i j)

          treated : falls g t r i ≡ true → MayFall g d t e r i x
          treated q = fall-up_to g d t e r i x reduced replaceable
            where
              least : (z : ℤ) → HoldsFall g d t e r i j z → fall g d t e i j ≤ℤ z
              least = (fall_is g d t e r i j p q).least

              reduced : (h : ℕ) → h ∈ up_to g.m → t h ≡ false → touches g i h ≡ true → UpToReduced g d t x h
              reduced h mh th k = by_cases (is_excluded (g.mark h)) (λ n. inl (λ f mf tf m. true≢false (sym n ∙ m.allowed))) (λ n. go n (support g d t h) refl)
                where
                  go : is_excluded (g.mark h) ≡ false → (c : Choice) → support g d t h ≡ c → UpToReduced g d t x h
                  go n none q = inl (λ f mf tf m. no_support g d t h q f (may_giver f h mf mh tf th m))
                  go n (one y) q =
                      let w : IsSupport g d t h y = support_is g d t h y q in
                      inr (
                        y,
                        support_of h y mh th w,
                        within_diff (fall g d t e i j) (charge g d y) (charge g d h) x fall-number
                            (least (charge g d h -ℤ charge g d y) (inr (inl (record {
                              h = h;
                              listed = mh;
                              outside = th;
                              allowed = λ z. true≢false (ap is_excluded (sym z) ∙ n);
                              end = k;
                              s = y;
                              support = w;
                              is = refl;
                            })))),
                      )

              replaceable : (f : ℕ) → f ∈ up_to g.m → t f ≡ false → touches g i f ≡ true → MaySwap g t e f → (charge g d r +ℤ pos x) ≤ℤ charge g d f
              replaceable f mf tf k m = go (ℕ_discrete j 1)
                where
                  go : Dec (j ≡ 1) → (charge g d r +ℤ pos x) ≤ℤ charge g d f
                  go (yes z) = absurd (true≢false (sym te ∙ ap t (sym (joint f mf k (place_back e f j mf me other z m.place))) ∙ tf))
                  go (no z) =
                      within_diff (fall g d t e i j) (charge g d r) (charge g d f) x fall-number
                      (least (charge g d f -ℤ charge g d r) (inr (inr (z, record { h = f; taker = may_taker e f me mf te tf m; end = k; is = refl }))))

  -- ---- both ends

  module _ (e : ℕ) (me : e ∈ up_to g.m) (alone : Alone g e) (low : InRange max_multiplier (d (g.a e))) (high : InRange max_multiplier (d (g.b e))) where
    move : (x y : ℤ) → Changed d (moved d (g.a e) (g.b e) x y) (g.a e) (g.b e) x y
    unfolding moved
    move x y = record {
      first = rw (eq-eqb (g.a e) (g.a e) refl);
      second = rw (ne_eqb (g.b e) (g.a e) (λ q. ends_apart g vg e me (sym q)), eq-eqb (g.b e) (g.b e) refl);
      elsewhere = λ u n k. rw (ne_eqb u (g.a e) n, ne_eqb u (g.b e) k);
    }

    turned : (f : ℕ) → f ∈ up_to g.m → touches g (g.b e) f ≡ true → touches g (g.a e) f ≡ true → f ≡ e
    turned f mf p q = alone f mf q p

    -- BARRED UNDER THE LIFTED MULTIPLIERS
    pub raised_exactly : t e ≡ false → (s : ℕ) → IsSupport g d t e s → (z : ℤ)
        → Barred g (raised g d t e) z e
        ↔ (z <ℤ (((bound g d t +ℤ (charge g d e -ℤ charge g d s)) +ℤ (rise g d t e (g.a e) (g.b e) *ℤ (pos (degree g t (g.a e)) -ℤ pos 1)))
        +ℤ (rise g d t e (g.b e) (g.a e) *ℤ (pos (degree g t (g.b e)) -ℤ pos 1))))
    unfolding raised
    raised_exactly te s p z = rw (nx, ny) (raised_barred g vg d (moved d (g.a e) (g.b e) (pos x) (pos y)) t l e me te alone s (support_of e s me te p) x y
        (move (pos x) (pos y)) (may_rise e me (g.a e) (g.b e) alone (touches-second g e) low te s p)
        (may_rise e me (g.b e) (g.a e) turned (touches-first g e) high te s p) z)
      where
        x : ℕ
        x = up (rise g d t e (g.a e) (g.b e))

        y : ℕ
        y = up (rise g d t e (g.b e) (g.a e))

        nx : rise g d t e (g.a e) (g.b e) ≡ pos x
        nx = rise-number e me (g.a e) (g.b e) alone (touches-second g e) low te s p

        ny : rise g d t e (g.b e) (g.a e) ≡ pos y
        ny = rise-number e me (g.b e) (g.a e) turned (touches-first g e) high te s p

    -- in the numbers that a program keeps: c k is the charge of edge k and K, and the ceiling lies the slack above the bound
    pub raised-in_numbers : (K : ℕ) (c : ℕ → ℕ) → Shifted g d K c → (z : ℤ) (slack : ℕ) → SlackIs z (bound g d t) slack
        → t e ≡ false → (s : ℕ) → IsSupport g d t e s → (x y : ℕ) → rise g d t e (g.a e) (g.b e) ≡ pos x → rise g d t e (g.b e) (g.a e) ≡ pos y
        → Barred g (raised g d t e) z e ↔ (slack + c s + (x + y) < c e + (x * degree g t (g.a e) + y * degree g t (g.b e)))
    unfolding raised
    raised-in_numbers K c off z slack within te s p x y hx hy =
        rw (hx, hy) (raised-number g vg d (moved d (g.a e) (g.b e) (pos x) (pos y)) K c off t l z slack within e me alone x y te s (support_of e s me te p)
        (move (pos x) (pos y)) (subst (MayRise g d t e s (g.a e)) (ap up hx) (may_rise e me (g.a e) (g.b e) alone (touches-second g e) low te s p))
        (subst (MayRise g d t e s (g.b e)) (ap up hy) (may_rise e me (g.b e) (g.a e) turned (touches-first g e) high te s p)))

    pub lowered-in_numbers : (K : ℕ) (c : ℕ → ℕ) → Shifted g d K c → (z : ℤ) (slack : ℕ) → SlackIs z (bound g d t) slack
        → t e ≡ true → (r : ℕ) → IsReplacement g d t e r → (x y : ℕ) → fall g d t e (g.a e) (g.b e) ≡ pos x → fall g d t e (g.b e) (g.a e) ≡ pos y
        → Forced g (lowered g d t e) z e ↔ (slack + c e + (x * degree g t (g.a e) + y * degree g t (g.b e)) < c r + (3 * x + 3 * y))
    unfolding lowered
    lowered-in_numbers K c off z slack within te r p x y hx hy =
        rw (hx, hy) (lowered-number g vg d (moved d (g.a e) (g.b e) (neg_ℤ (pos x)) (neg_ℤ (pos y))) K c off t l z slack within e me alone x y te r
        (replacement_of e r me te p) (move (neg_ℤ (pos x)) (neg_ℤ (pos y)))
        (subst (MayFall g d t e r (g.a e)) (ap up hx) (may_fall e me (g.a e) (g.b e) alone (touches-second g e) low te r p))
        (subst (MayFall g d t e r (g.b e)) (ap up hy) (may_fall e me (g.b e) (g.a e) turned (touches-first g e) high te r p)))

    -- FORCED UNDER THE LIFTED MULTIPLIERS
    pub lowered_exactly : t e ≡ true → (r : ℕ) → IsReplacement g d t e r → (z : ℤ)
        → Forced g (lowered g d t e) z e
        ↔ (z <ℤ (((bound g d t +ℤ (charge g d r -ℤ charge g d e)) +ℤ (fall g d t e (g.a e) (g.b e) *ℤ (pos 3 -ℤ pos (degree g t (g.a e)))))
        +ℤ (fall g d t e (g.b e) (g.a e) *ℤ (pos 3 -ℤ pos (degree g t (g.b e))))))
    unfolding lowered
    lowered_exactly te r p z = rw (nx, ny) (lowered_forced g vg d (moved d (g.a e) (g.b e) (neg_ℤ (pos x)) (neg_ℤ (pos y))) t l e me te alone r
        (replacement_of e r me te p) x y (move (neg_ℤ (pos x)) (neg_ℤ (pos y))) (may_fall e me (g.a e) (g.b e) alone (touches-second g e) low te r p)
        (may_fall e me (g.b e) (g.a e) turned (touches-first g e) high te r p) z)
      where
        x : ℕ
        x = up (fall g d t e (g.a e) (g.b e))

        y : ℕ
        y = up (fall g d t e (g.b e) (g.a e))

        nx : fall g d t e (g.a e) (g.b e) ≡ pos x
        nx = fall-number e me (g.a e) (g.b e) alone (touches-second g e) low te r p

        ny : fall g d t e (g.b e) (g.a e) ≡ pos y
        ny = fall-number e me (g.b e) (g.a e) turned (touches-first g e) high te r p
