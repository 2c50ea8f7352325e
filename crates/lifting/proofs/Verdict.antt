-- The ruling that lifting gives to an edge which the ordinary pass keeps, by the numbers that the loops find. Assumes nothing.
use Rattle.std.specs.Prelude.{◌≡◌, refl, ◌↔◌, Bool, not, cond, ◌&&◌, ◌||◌, List, ℕ, suc, ◌+◌, ◌*◌, ◌-◌, ◌<◌, ◌≤◌, eqb, leb, ltb, ℤ}
use Rattle.std.proofs.Common.{sym, ◌∙◌, inl, inr, true≢false, arith, lt-ltb, le-ltb}
use Rattle.std.proofs.Math.Bool.{true, false}
use Rattle.std.proofs.Math.Decide.{dec_le}
use Rattle.lists.specs.Bools.{by_cases}
use Rattle.lists.specs.Members.{◌∈◌}
use Rattle.lists.specs.Numbers.{up_to}
use Rattle.integers.specs.Range.{InRange}
use Rattle.graph.specs.Limits.{max_multiplier}
use Rattle.graph.specs.Network.{Network, Mark, free, required, excluded}
use Rattle.tree_theory.specs.OneTree.{Edges, Least, bound, Barred, Forced}
use Rattle.tree_theory.specs.Agree.{Agree}
use Rattle.tree_theory.specs.Enumeration.{a_tree, least_tree}
use Rattle.tree_theory.specs.Enumeration.{keeps, forces, bars, ruled, ruling, barred_b, forced_b}
use Rattle.tree_theory.specs.Decide.{barred_test, forced_test}
use Rattle.tree_theory.specs.LeastTree.{tree_found}
use Rattle.tree_theory.specs.Valid.{Valid}
use Rattle.tree_theory.specs.Optimal.Bound.{Shifted}
use Rattle.tree_theory.specs.Optimal.Exchange.{Minimal, least_minimal}
use Rattle.swaps.specs.Slack.{SlackIs}
use Rattle.tours.specs.Tours.{degree}
use Rattle.lifting.specs.Lifted.{touches, rises, falls, raised, lowered, ruling_with}
use Rattle.lifting.specs.Plain.{IsSupport, IsReplacement}
use Rattle.lifting.specs.Moves.{Alone}
use Rattle.lifting.specs.Exactly.{kept-support, kept-replacement}
use Rattle.lifting.specs.Agreeing.{same_test, raised_agree, lowered_agree}
use Rattle.lifting.specs.Worked.{BestGiver, BestTaker, RisesBy, FallsBy, support-best, replacement-best, raised_worked, lowered_worked}
use Rattle.lifting.specs.Folds.{Listed}
use Rattle.lifting.specs.Found.{Context, top_of, place_of, top_at, low_at, cost_of, giver_some, taker_some, best_giver, best_taker, reduced_is, replaced_is, least_rise, least_fall}
use Rattle.lifting.specs.Verdict.{still_of, end_move, room_of, decides}

-- ---- rulings

kept-both : (g : Network) (d : ℕ → ℤ) (z : ℤ) (e : ℕ) → ruling g d z e ≡ keeps → (barred_b g d z e ≡ false) × (forced_b g d z e ≡ false)
unfolding ruling
kept-both g d z e h = go (g.mark e) (barred_b g d z e) (forced_b g d z e) h
  where
    go : (x : Mark) (b f : Bool) → ruled x b f ≡ keeps → (b ≡ false) × (f ≡ false)
    go required b f h = absurd (let y : true ≡ false = cc in true≢false y)
    go excluded b f h = absurd (let y : true ≡ false = cc in true≢false y)
    go free true f h = absurd (let y : true ≡ false = cc in true≢false y)
    go free false true h = absurd (let y : true ≡ false = cc in true≢false y)
    go free false false h = (refl, refl)

module _ (g : Network) (d : ℕ → ℤ) (z : ℤ) (t : Edges) (l : Least g d t) (e : ℕ) (me : e ∈ up_to g.m) (kept : ruling g d z e ≡ keeps) (b : Bool) where
  by_barred : t e ≡ false → (b ≡ true) ↔ Barred g (raised g d t e) z e → ruling_with true g d z e ≡ cond b bars keeps
  unfolding ruling_with
  by_barred te i = rw (f.1, kept, f.2 e me ∙ te, raised_agree g f.0 t f.2 d e, same)
    where
      f : (r : Edges) × (least_tree g d ≡ a_tree (bound g d t) r) × Agree g.m r t
      f = tree_found g d t l

      same : barred_b g (raised g d t e) z e ≡ b
      same =
          same_test (barred_b g (raised g d t e) z e) b (λ h. i.1 ((barred_test g (raised g d t e) z e me).0 h))
          (λ h. (barred_test g (raised g d t e) z e me).1 (i.0 h))

  by_forced : t e ≡ true → (b ≡ true) ↔ Forced g (lowered g d t e) z e → ruling_with true g d z e ≡ cond b forces keeps
  unfolding ruling_with
  by_forced te i = rw (f.1, kept, f.2 e me ∙ te, lowered_agree g f.0 t f.2 d e, same)
    where
      f : (r : Edges) × (least_tree g d ≡ a_tree (bound g d t) r) × Agree g.m r t
      f = tree_found g d t l

      same : forced_b g (lowered g d t e) z e ≡ b
      same =
          same_test (forced_b g (lowered g d t e) z e) b (λ h. i.1 ((forced_test g (lowered g d t e) z e me).0 h))
          (λ h. (forced_test g (lowered g d t e) z e me).1 (i.0 h))

-- ---- numbers

below_is : (x y : ℕ) → (ltb x y ≡ true) ↔ (x < y)
below_is x y = go (dec_le (suc x) y)
  where
    go : Dec (x < y) → (ltb x y ≡ true) ↔ (x < y)
    go (yes h) = ((λ e. h), λ e. lt-ltb x y h)
    go (no h) = ((λ e. absurd (true≢false (sym e ∙ le-ltb x y (omega arith)))), λ e. absurd (h e))

still_rises : (a b c : Bool) → (a || (b || not c) ≡ false → not a && not b && c ≡ true) × (a || (b || not c) ≡ true → not a && not b && c ≡ false)
still_rises true b c = ((λ h. absurd (true≢false h)), λ h. refl)
still_rises false true c = ((λ h. absurd (true≢false h)), λ h. refl)
still_rises false false true = ((λ h. refl), λ h. absurd (true≢false (sym h)))
still_rises false false false = ((λ h. absurd (true≢false h)), λ h. refl)

module _ (g : Network) (vg : Valid g) (d : ℕ → ℤ) (K : ℕ) (c : ℕ → ℕ) (off : Shifted g d K c) (t : Edges) (l : Least g d t)
    (z : ℤ) (slack : ℕ) (within : SlackIs z (bound g d t) slack)
    (none : ℕ) (wide : 2 * max_multiplier ≤ none) (In Out : ℕ → Type 0) (meets on : ℕ → ℕ → Bool) (x : Context g c t none In Out meets on)
    (ins outs : List ℕ) (p q : ℕ) (li : Listed In ins p) (lo : Listed Out outs q) (cost : ℕ → ℕ)
    (cost_in_lem : (f : ℕ) → In f → cost f ≡ cost_of none (none - c (suc f)) (top_of none c meets true outs q f))
    (cost_out : (f : ℕ) → Out f → cost f ≡ cost_of none (c (suc f)) (top_of none c meets false ins p f))
    (k : ℕ) (me : suc k ∈ up_to g.m) (alone : Alone g (suc k)) (range : (v : ℕ) → InRange max_multiplier (d v)) (kept : ruling g d z (suc k) ≡ keeps) where
  min : Minimal g d t
  min = least_minimal l

  -- OUTSIDE THE TREE
  module _ (ok : Out k) (te : t (suc k) ≡ false) where
    some : 1 ≤ top_of none c meets false ins p k
    some =
        let r : (s : ℕ) × IsSupport g d t (suc k) s =
        kept-support g vg d t min z (suc k) me te (λ b. true≢false (sym ((barred_test g d z (suc k) me).1 b) ∙ (kept-both g d z (suc k) kept).0)) in
        giver_some g c t none In Out meets on x ins outs p q li lo k ok r.0 (support-best g vg d K c off t min (suc k) r.0 me te r.1).pair

    best : BestGiver g c t (suc k) (suc (place_of none c meets false ins p k)) × (c (suc (place_of none c meets false ins p k)) ≡ top_of none c meets false ins p k)
    best = best_giver g c t none In Out meets on x ins outs p q li lo k ok some

    -- how far the end i rises
    abbrev pub rise_at : ℕ → ℕ → ℕ
    rise_at i j =
        end_move false i j (on i (place_of none c meets false ins p k)) (degree g t i) (room_of false (d i)) (low_at none on cost ins p i)
        (top_of none c meets false ins p k) (top_at none c meets on false ins p i k)

    rises_by : (i j : ℕ) → RisesBy g d c t (suc k) (suc (place_of none c meets false ins p k)) i j (rise_at i j)
    unfolding still_of
    rises_by i j = by_cases (still_of false i (on i (place_of none c meets false ins p k)) (degree g t i)) still moves
      where
        end : on i (place_of none c meets false ins p k) ≡ touches g i (suc (place_of none c meets false ins p k))
        end = x.end_in i (place_of none c meets false ins p k)
            (x.back (place_of none c meets false ins p k) k best.0.pair).0

        still : still_of false i (on i (place_of none c meets false ins p k)) (degree g t i) ≡ true
            → RisesBy g d c t (suc k) (suc (place_of none c meets false ins p k)) i j (rise_at i j)
        still h = inr (
          unfold rises in
              ((still_rises (eqb i 1) (touches g i (suc (place_of none c meets false ins p k))) (leb 2 (degree g t i))).1 (rw end at h)),
          unfold end_move in rw h,
        )

        moves : still_of false i (on i (place_of none c meets false ins p k)) (degree g t i) ≡ false
            → RisesBy g d c t (suc k) (suc (place_of none c meets false ins p k)) i j (rise_at i j)
        moves h = inl (
          unfold rises in
              ((still_rises (eqb i 1) (touches g i (suc (place_of none c meets false ins p k))) (leb 2 (degree g t i))).0 (rw end at h)),
          unfold end_move in rw h (least_rise g c t none In Out meets on x ins outs p q li lo d cost i j (room_of false (d i))
              (unfold room_of in omega (arith, (range i).high, (range i).low, wide)) k ok some (unfold room_of in omega (arith, (range i).high, (range i).low)) cost_in_lem),
        )

    pub lifts_outside : ruling_with true g d z (suc k)
        ≡ cond (decides false slack (cost k) (rise_at (g.a (suc k)) (g.b (suc k))) (degree g t (g.a (suc k))) (rise_at (g.b (suc k)) (g.a (suc k)))
        (degree g t (g.b (suc k)))) bars keeps
    unfolding decides
    lifts_outside = by_barred g d z t l (suc k) me kept _ te ((λ h. w.1 (omega (arith, n.0 h, i, best.1))), λ h. n.1 (omega (arith, w.0 h, i, best.1)))
      where
        w : Barred g (raised g d t (suc k)) z (suc k)
            ↔ (slack + c (suc (place_of none c meets false ins p k)) + (rise_at (g.a (suc k)) (g.b (suc k)) + (rise_at) (g.b (suc k)) (g.a (suc k)))
            < c (suc k) + (rise_at (g.a (suc k)) (g.b (suc k)) * degree g t (g.a (suc k)) + (rise_at) (g.b (suc k)) (g.a (suc k)) * degree g t (g.b (suc k))))
        w = raised_worked g vg d K c off t min z slack within (suc k) me alone (range (g.a (suc k))) (range (g.b (suc k)))
            (rise_at (g.a (suc k)) (g.b (suc k))) (rise_at (g.b (suc k)) (g.a (suc k))) (suc (place_of none c meets false ins p k)) best.0
            (rises_by (g.a (suc k)) (g.b (suc k))) (rises_by (g.b (suc k)) (g.a (suc k)))

        i : cost k + c (suc (place_of none c meets false ins p k)) ≡ c (suc k)
        i = rw (cost_out k ok) (reduced_is g c t none In Out meets on x ins outs p q li lo k ok (suc (place_of none c meets false ins p k)) best.0)

        n : (ltb (slack + (rise_at (g.a (suc k)) (g.b (suc k)) + (rise_at) (g.b (suc k)) (g.a (suc k))))
            (cost k + (rise_at (g.a (suc k)) (g.b (suc k)) * degree g t (g.a (suc k)) + (rise_at) (g.b (suc k)) (g.a (suc k)) * degree g t (g.b (suc k)))) ≡ true)
            ↔ (slack + (rise_at (g.a (suc k)) (g.b (suc k)) + (rise_at) (g.b (suc k)) (g.a (suc k)))
            < cost k + (rise_at (g.a (suc k)) (g.b (suc k)) * degree g t (g.a (suc k)) + (rise_at) (g.b (suc k)) (g.a (suc k)) * degree g t (g.b (suc k))))
        n = below_is (slack + (rise_at (g.a (suc k)) (g.b (suc k)) + (rise_at) (g.b (suc k)) (g.a (suc k))))
            (cost k + (rise_at (g.a (suc k)) (g.b (suc k)) * degree g t (g.a (suc k)) + (rise_at) (g.b (suc k)) (g.a (suc k)) * degree g t (g.b (suc k))))

  -- IN THE TREE
  module _ (ok : In k) (te : t (suc k) ≡ true) where
    some' : 1 ≤ top_of none c meets true outs q k
    some' =
        let r : (s : ℕ) × IsReplacement g d t (suc k) s =
        kept-replacement g vg d t min z (suc k) me te (λ b. true≢false (sym ((forced_test g d z (suc k) me).1 b) ∙ (kept-both g d z (suc k) kept).1)) in
        taker_some g c t none In Out meets on x ins outs p q li lo k ok r.0 (replacement-best g vg d K c off t min (suc k) r.0 me te r.1).pair

    best' : BestTaker g c t (suc k) (suc (place_of none c meets true outs q k)) × (none - c (suc (place_of none c meets true outs q k)) ≡ top_of none c meets true outs q k)
    best' = best_taker g c t none In Out meets on x ins outs p q li lo k ok some'

    -- how far the end i falls
    abbrev pub fall_at : ℕ → ℕ → ℕ
    fall_at i j =
        end_move true i j (on i (place_of none c meets true outs q k)) (degree g t i) (room_of true (d i)) (low_at none on cost outs q i)
        (top_of none c meets true outs q k) (top_at none c meets on true outs q i k)

    falls_by : (i j : ℕ) → FallsBy g d c t (suc k) (suc (place_of none c meets true outs q k)) i j (fall_at i j)
    unfolding still_of
    falls_by i j = by_cases (still_of true i (on i (place_of none c meets true outs q k)) (degree g t i)) still moves
      where
        end : on i (place_of none c meets true outs q k) ≡ touches g i (suc (place_of none c meets true outs q k))
        end = x.end_out i (place_of none c meets true outs q k)
            (x.back k (place_of none c meets true outs q k) best'.0.pair).1

        still : still_of true i (on i (place_of none c meets true outs q k)) (degree g t i) ≡ true
            → FallsBy g d c t (suc k) (suc (place_of none c meets true outs q k)) i j (fall_at i j)
        still h = inr (
          unfold falls in
              ((still_rises (eqb i 1) (touches g i (suc (place_of none c meets true outs q k))) (leb (degree g t i) 2)).1 (rw end at h)),
          unfold end_move in rw h,
        )

        moves : still_of true i (on i (place_of none c meets true outs q k)) (degree g t i) ≡ false
            → FallsBy g d c t (suc k) (suc (place_of none c meets true outs q k)) i j (fall_at i j)
        moves h = inl (
          unfold falls in
              ((still_rises (eqb i 1) (touches g i (suc (place_of none c meets true outs q k))) (leb (degree g t i) 2)).0 (rw end at h)),
          unfold end_move in rw h (least_fall g c t none In Out meets on x ins outs p q li lo d cost i j (room_of true (d i))
              (unfold room_of in omega (arith, (range i).high, (range i).low, wide)) k ok some' (unfold room_of in omega (arith, (range i).high, (range i).low)) cost_out),
        )

    pub lifts_inside : ruling_with true g d z (suc k)
        ≡ cond (decides true slack (cost k) (fall_at (g.a (suc k)) (g.b (suc k))) (degree g t (g.a (suc k))) (fall_at (g.b (suc k)) (g.a (suc k)))
        (degree g t (g.b (suc k)))) forces keeps
    unfolding decides
    lifts_inside = by_forced g d z t l (suc k) me kept _ te ((λ h. w.1 (omega (arith, n.0 h, i))), λ h. n.1 (omega (arith, w.0 h, i)))
      where
        w : Forced g (lowered g d t (suc k)) z (suc k)
            ↔ (slack + c (suc k)
            + (fall_at (g.a (suc k)) (g.b (suc k)) * degree g t (g.a (suc k)) + (fall_at) (g.b (suc k)) (g.a (suc k)) * degree g t (g.b (suc k)))
            < c (suc (place_of none c meets true outs q k)) + (3 * (fall_at) (g.a (suc k)) (g.b (suc k)) + 3 * (fall_at) (g.b (suc k)) (g.a (suc k))))
        w = lowered_worked g vg d K c off t min z slack within (suc k) me alone (range (g.a (suc k))) (range (g.b (suc k)))
            (fall_at (g.a (suc k)) (g.b (suc k))) (fall_at (g.b (suc k)) (g.a (suc k))) (suc (place_of none c meets true outs q k)) best'.0
            (falls_by (g.a (suc k)) (g.b (suc k))) (falls_by (g.b (suc k)) (g.a (suc k)))

        i : cost k + c (suc k) ≡ c (suc (place_of none c meets true outs q k))
        i = rw (cost_in_lem k ok) (replaced_is g c t none In Out meets on x ins outs p q li lo k ok (suc (place_of none c meets true outs q k)) best'.0)

        n : (ltb (slack + (fall_at (g.a (suc k)) (g.b (suc k)) * degree g t (g.a (suc k)) + (fall_at) (g.b (suc k)) (g.a (suc k)) * degree g t (g.b (suc k))))
            (cost k + (3 * (fall_at) (g.a (suc k)) (g.b (suc k)) + 3 * (fall_at) (g.b (suc k)) (g.a (suc k)))) ≡ true)
            ↔ (slack + (fall_at (g.a (suc k)) (g.b (suc k)) * degree g t (g.a (suc k)) + (fall_at) (g.b (suc k)) (g.a (suc k)) * degree g t (g.b (suc k)))
            < cost k + (3 * (fall_at) (g.a (suc k)) (g.b (suc k)) + 3 * (fall_at) (g.b (suc k)) (g.a (suc k))))
        n = below_is (slack + (fall_at (g.a (suc k)) (g.b (suc k)) * degree g t (g.a (suc k)) + (fall_at) (g.b (suc k)) (g.a (suc k)) * degree g t (g.b (suc k))))
            (cost k + (3 * (fall_at) (g.a (suc k)) (g.b (suc k)) + 3 * (fall_at) (g.b (suc k)) (g.a (suc k))))
