-- The rulings of a pass with lifting, in plain words (lifts_exactly), and why they may be applied: a tour within the ceiling survives them, and so
-- does the tree of the pass. Assumes nothing.
use Rattle.std.specs.Prelude.{◌≡◌, ◌≢◌, ◌↔◌, Bool, cond, ℕ, ℤ, ◌≤ℤ◌}
use Rattle.std.proofs.Math.Path.{refl, ap}
use Rattle.std.proofs.Common.{sym, ◌∙◌, subst}
use Rattle.std.proofs.Math.Logic.{inl, inr}
use Rattle.std.proofs.Math.Bool.{true, false, true≢false}
use Rattle.lists.specs.Bools.{by_cases}
use Rattle.lists.specs.Members.{◌∈◌}
use Rattle.lists.specs.Numbers.{up_to}
use Rattle.integers.specs.Order.{le_lt_clash}
use Rattle.graph.specs.Network.{Network, Mark, free, required, excluded}
use Rattle.tree_theory.specs.OneTree.{Edges, OneTree, Least, bound, Barred, Forced}
use Rattle.tree_theory.specs.Enumeration.{Tree, no_tree, a_tree, least_tree, barred_b, forced_b}
use Rattle.tree_theory.specs.Enumeration.{Ruling, keeps, forces, bars, was_required, was_excluded, ruled, ruling}
use Rattle.tree_theory.specs.Decide.{barred_test, forced_test}
use Rattle.tree_theory.specs.LeastTree.{tree_found, tree_right, Right}
use Rattle.tree_theory.specs.Agree.{Agree}
use Rattle.tree_theory.specs.Valid.{Valid}
use Rattle.tours.specs.Tours.{Tour, Allowed, cost}
use Rattle.tours.specs.TourTree.{tour_tree, bound_is_cost}
use Rattle.lifting.specs.Lifted.{raised, lowered, tried, retried, ruling_with}
use Rattle.lifting.specs.Agreeing.{raised_agree, lowered_agree}
use Rattle.lifting.specs.Rulings.{is_bars, is_forces, is_bars_lem, is_forces_lem, as_ruled, Tried, WhyBars, WhyForces}

-- an excluded edge stays so
pub excluded_stays : (lifting : Bool) (g : Network) (d : ℕ → ℤ) (ceiling : ℤ) (e : ℕ) → g.mark e ≡ excluded → ruling_with lifting g d ceiling e ≡ was_excluded
excluded_stays lifting g d ceiling e h =
    as_ruled lifting g d ceiling e
    ∙ ap (λ (x : Mark). ruled x (is_bars (ruling_with lifting g d ceiling e)) (is_forces (ruling_with lifting g d ceiling e))) h

bars_not_forces : bars ≢ forces
bars_not_forces e = true≢false (ap is_bars e)

keeps_not_bars : keeps ≢ bars
keeps_not_bars e = let z : true ≡ false = cc in true≢false z

keeps_not_forces : keeps ≢ forces
keeps_not_forces e = let z : true ≡ false = cc in true≢false z

module _ (g : Network) (d : ℕ → ℤ) (ceiling : ℤ) (e : ℕ) (me : e ∈ up_to g.m) where
  barring : (b : Bool) → {P : Type 0} → (b ≡ true ↔ P) → ((cond b bars keeps ≡ bars) ↔ P) × (cond b bars keeps ≢ forces)
  barring true i = (((λ h. i.0 refl), λ p. refl), bars_not_forces)
  barring false i = (((λ h. absurd (keeps_not_bars h)), λ p. absurd (true≢false (sym (i.1 p)))), keeps_not_forces)

  forcing : (b : Bool) → {P : Type 0} → (b ≡ true ↔ P) → ((cond b forces keeps ≡ forces) ↔ P) × (cond b forces keeps ≢ bars)
  forcing true i = (((λ h. i.0 refl), λ p. refl), λ h. bars_not_forces (sym h))
  forcing false i = (((λ h. absurd (keeps_not_forces h)), λ p. absurd (true≢false (sym (i.1 p)))), keeps_not_bars)

  tried_is : (t : Edges) → Tried g d ceiling t e (tried g d ceiling e t (t e))
  tried_is t = (
    (λ h. rw h (barring (barred_b g (raised g d t e) ceiling e) (barred_test g (raised g d t e) ceiling e me))),
    λ h. rw h (forcing (forced_b g (lowered g d t e) ceiling e) (forced_test g (lowered g d t e) ceiling e me)),
  )

  of_tree : (r t : Edges) → Agree g.m r t → (x : Ruling) → Tried g d ceiling r e x → Tried g d ceiling t e x
  of_tree r t a x h = rw (raised_agree g r t a d e, lowered_agree g r t a d e, a e me) at h

  -- C-13: "A leg that the ordinary pass keeps is tried under its lifted dues: outside the tree it is barred, inside it forced, exactly when the
  -- definition in Rulings says so under those dues."
  pub lifts_exactly : (t : Edges) → Least g d t → ruling g d ceiling e ≡ keeps → Tried g d ceiling t e (ruling_with true g d ceiling e)
  unfolding ruling_with
  lifts_exactly t l k =
      let f = tree_found g d t l in
      rw (f.1, k) (of_tree f.0 t f.2 (tried g d ceiling e f.0 (f.0 e)) (tried_is f.0))

  ordinary_bars : ruling g d ceiling e ≡ bars → Barred g d ceiling e
  unfolding ruling
  ordinary_bars h = (barred_test g d ceiling e me).0 (go (g.mark e) (barred_b g d ceiling e) (forced_b g d ceiling e) h)
    where
      go : (x : Mark) (b f : Bool) → ruled x b f ≡ bars → b ≡ true
      go required b f h = cc
      go excluded b f h = cc
      go free true f h = refl
      go free false true h = cc
      go free false false h = cc

  ordinary_forces : ruling g d ceiling e ≡ forces → Forced g d ceiling e
  unfolding ruling
  ordinary_forces h = (forced_test g d ceiling e me).0 (go (g.mark e) (barred_b g d ceiling e) (forced_b g d ceiling e) h)
    where
      go : (x : Mark) (b f : Bool) → ruled x b f ≡ forces → f ≡ true
      go required b f h = cc
      go excluded b f h = cc
      go free true f h = cc
      go free false true h = refl
      go free false false h = cc

  pub why_bars : (lifting : Bool) → ruling_with lifting g d ceiling e ≡ bars → WhyBars g d ceiling e me
  unfolding ruling_with
  why_bars false h = inl (ordinary_bars h)
  why_bars true h = go (least_tree g d) refl (ruling g d ceiling e) refl h
    where
      go : (x : Tree) → least_tree g d ≡ x → (r : Ruling) → ruling g d ceiling e ≡ r → retried g d ceiling e x r ≡ bars → WhyBars g d ceiling e me
      go no_tree p r q h = inl (ordinary_bars (q ∙ h))
      go (a_tree b t) p keeps q h = by_cases (t e) (λ i. absurd (((tried_is t).1 i).1 h)) (λ i. inr (b, t, p, i, ((tried_is t).0 i).0.0 h))
      go (a_tree b t) p forces q h = inl (ordinary_bars (q ∙ h))
      go (a_tree b t) p bars q h = inl (ordinary_bars q)
      go (a_tree b t) p was_required q h = inl (ordinary_bars (q ∙ h))
      go (a_tree b t) p was_excluded q h = inl (ordinary_bars (q ∙ h))

  pub why_forces : (lifting : Bool) → ruling_with lifting g d ceiling e ≡ forces → WhyForces g d ceiling e me
  unfolding ruling_with
  why_forces false h = inl (ordinary_forces h)
  why_forces true h = go (least_tree g d) refl (ruling g d ceiling e) refl h
    where
      go : (x : Tree) → least_tree g d ≡ x → (r : Ruling) → ruling g d ceiling e ≡ r → retried g d ceiling e x r ≡ forces → WhyForces g d ceiling e me
      go no_tree p r q h = inl (ordinary_forces (q ∙ h))
      go (a_tree b t) p keeps q h = by_cases (t e) (λ i. inr (b, t, p, i, ((tried_is t).1 i).0.0 h)) (λ i. absurd (((tried_is t).0 i).1 h))
      go (a_tree b t) p forces q h = inl (ordinary_forces q)
      go (a_tree b t) p bars q h = inl (ordinary_forces (q ∙ h))
      go (a_tree b t) p was_required q h = inl (ordinary_forces (q ∙ h))
      go (a_tree b t) p was_excluded q h = inl (ordinary_forces (q ∙ h))

  -- ---- what survives

  -- a 1-tree that is within the ceiling under any multipliers, as a tour is
  module _ (lifting : Bool) (s : Edges) (o : OneTree g s) (cheap : (d' : ℕ → ℤ) → bound g d' s ≤ℤ ceiling) where
    pub any_out : ruling_with lifting g d ceiling e ≡ bars → s e ≡ false
    unfolding Barred
    any_out h = by_cases (s e) (λ i. absurd (go i (why_bars lifting h))) (λ i. i)
      where
        go : s e ≡ true → WhyBars g d ceiling e me → ⊥
        go i (inl b) = le_lt_clash (bound g d s) ceiling (cheap d) (b s o i)
        go i (inr (b, t, p, q, w)) = le_lt_clash (bound g (raised g d t e) s) ceiling (cheap (raised g d t e)) (w s o i)

    pub any_in : ruling_with lifting g d ceiling e ≡ forces → s e ≡ true
    unfolding Forced
    any_in h = by_cases (s e) (λ i. i) (λ i. absurd (go i (why_forces lifting h)))
      where
        go : s e ≡ false → WhyForces g d ceiling e me → ⊥
        go i (inl b) = le_lt_clash (bound g d s) ceiling (cheap d) (b s o i)
        go i (inr (b, t, p, q, w)) = le_lt_clash (bound g (lowered g d t e) s) ceiling (cheap (lowered g d t e)) (w s o i)

  -- A TOUR WITHIN THE CEILING SURVIVES: its bound is its cost whatever the multipliers
  module _ (vg : Valid g) (lifting : Bool) (s : Edges) (tour : Tour g s) (allowed : Allowed g s) (cheap : cost g s ≤ℤ ceiling) where
    any : (d' : ℕ → ℤ) → bound g d' s ≤ℤ ceiling
    any d' = rw (bound_is_cost g vg s tour d') cheap

    pub tour_out : ruling_with lifting g d ceiling e ≡ bars → s e ≡ false
    tour_out = any_out lifting s (tour_tree g vg s tour allowed) any

    pub tour_in : ruling_with lifting g d ceiling e ≡ forces → s e ≡ true
    tour_in = any_in lifting s (tour_tree g vg s tour allowed) any

  -- THE TREE OF THE PASS SURVIVES: lifting bars outside it and forces inside it
  module _ (lifting : Bool) (b : ℤ) (t : Edges) (is : least_tree g d ≡ a_tree b t) (within : b ≤ℤ ceiling) where
    right : (b ≡ bound g d t) × Least g d t
    right = subst (Right g d) is (tree_right g d)

    pub tree_out : ruling_with lifting g d ceiling e ≡ bars → t e ≡ false
    unfolding Barred
    tree_out h = by_cases (t e) (λ i. absurd (go i (why_bars lifting h))) (λ i. i)
      where
        go : t e ≡ true → WhyBars g d ceiling e me → ⊥
        go i (inl w) = le_lt_clash (bound g d t) ceiling (rw right.0 at within) (w t right.1.tree i)
        go i (inr (c, r, p, q, w)) = true≢false (sym i ∙ ap (λ (x : Edges). x e) (one-tree (sym is ∙ p)) ∙ q)
          where
            one-tree : a_tree b t ≡ a_tree c r → t ≡ r
            one-tree u = cc

    pub tree_in : ruling_with lifting g d ceiling e ≡ forces → t e ≡ true
    unfolding Forced
    tree_in h = by_cases (t e) (λ i. i) (λ i. absurd (go i (why_forces lifting h)))
      where
        go : t e ≡ false → WhyForces g d ceiling e me → ⊥
        go i (inl w) = le_lt_clash (bound g d t) ceiling (rw right.0 at within) (w t right.1.tree i)
        go i (inr (c, r, p, q, w)) = true≢false (sym q ∙ ap (λ (x : Edges). x e) (sym (one-tree (sym is ∙ p))) ∙ i)
          where
            one-tree : a_tree b t ≡ a_tree c r → t ≡ r
            one-tree u = cc

-- a free edge that is neither barred nor forced is kept
pub free_kept : (lifting : Bool) (g : Network) (d : ℕ → ℤ) (ceiling : ℤ) (e : ℕ) → g.mark e ≡ free
    → ruling_with lifting g d ceiling e ≢ bars → ruling_with lifting g d ceiling e ≢ forces → ruling_with lifting g d ceiling e ≡ keeps
free_kept lifting g d ceiling e h nb nf =
    as_ruled lifting g d ceiling e ∙ rw (h, no_bar, no_force)
  where
    r : Ruling
    r = ruling_with lifting g d ceiling e

    no_bar : is_bars (ruling_with lifting g d ceiling e) ≡ false
    no_bar = by_cases (is_bars (ruling_with lifting g d ceiling e)) (λ q. absurd (nb (is_bars_lem (ruling_with lifting g d ceiling e) q))) (λ q. q)

    no_force : is_forces (ruling_with lifting g d ceiling e) ≡ false
    no_force = by_cases (is_forces (ruling_with lifting g d ceiling e)) (λ q. absurd (nf (is_forces_lem (ruling_with lifting g d ceiling e) q))) (λ q. q)
