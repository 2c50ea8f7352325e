-- The rulings of a pass with lifting: what stays as the ordinary pass ruled it, and, in plain words, why an edge is barred or forced. (What they
-- say and why they may be applied: proofs/Rulings.) Assumes nothing.
use Rattle.std.specs.Prelude.{◌≡◌, ◌≢◌, ◌↔◌, ◌⊎◌, Bool, cond, ℕ, eqb, ℤ, ◌+ℤ◌}
use Rattle.std.proofs.Math.Path.{refl, ap}
use Rattle.std.proofs.Common.{sym, eq-eqb, ne_eqb}
use Rattle.std.proofs.Math.Bool.{true, false, true≢false}
use Rattle.std.proofs.Math.Decide.{ℕ_discrete}
use Rattle.std.proofs.Math.IntN.{pos, neg_ℤ, +ℤ_idr}
use Rattle.lists.specs.Members.{◌∈◌}
use Rattle.lists.specs.Numbers.{up_to}
use Rattle.graph.specs.Network.{Network, Mark, free, required, excluded}
use Rattle.tree_theory.specs.OneTree.{Edges, Barred, Forced}
use Rattle.tree_theory.specs.Enumeration.{Tree, no_tree, a_tree, least_tree, barred_b, forced_b}
use Rattle.tree_theory.specs.Enumeration.{Ruling, keeps, forces, bars, was_required, was_excluded, ruled, ruling}
use Rattle.lifting.specs.Lifted.{Choice, none, one, support, replacement, rises, falls, rise_by, fall_by, rise, fall, moved}
use Rattle.lifting.specs.Lifted.{raised, lowered, tried, retried, ruling_with}

-- WITHOUT LIFTING it is document 01's ruling
pub unlifted : (g : Network) (d : ℕ → ℤ) (ceiling : ℤ) (e : ℕ) → ruling_with false g d ceiling e ≡ ruling g d ceiling e
unfolding ruling_with
unlifted g d ceiling e = refl

-- "the programs open without it": what the ordinary pass rules, it rules with lifting too
pub ruled_stays : (g : Network) (d : ℕ → ℤ) (ceiling : ℤ) (e : ℕ) → ruling g d ceiling e ≢ keeps → ruling_with true g d ceiling e ≡ ruling g d ceiling e
unfolding ruling_with
ruled_stays g d ceiling e n = go (least_tree g d) (ruling g d ceiling e) n
  where
    go : (x : Tree) (r : Ruling) → r ≢ keeps → retried g d ceiling e x r ≡ r
    go no_tree r n = refl
    go (a_tree b t) keeps n = absurd (n refl)
    go (a_tree b t) forces n = refl
    go (a_tree b t) bars n = refl
    go (a_tree b t) was_required n = refl
    go (a_tree b t) was_excluded n = refl

-- ---- a ruling by two tests, as document 01's are

abbrev pub is_bars : Ruling → Bool
is_bars keeps = false
is_bars forces = false
is_bars bars = true
is_bars was_required = false
is_bars was_excluded = false

abbrev pub is_forces : Ruling → Bool
is_forces keeps = false
is_forces forces = true
is_forces bars = false
is_forces was_required = false
is_forces was_excluded = false

pub is_bars_lem : (r : Ruling) → is_bars r ≡ true → r ≡ bars
is_bars_lem keeps h = absurd (true≢false (sym h))
is_bars_lem forces h = absurd (true≢false (sym h))
is_bars_lem bars h = refl
is_bars_lem was_required h = absurd (true≢false (sym h))
is_bars_lem was_excluded h = absurd (true≢false (sym h))

pub is_forces_lem : (r : Ruling) → is_forces r ≡ true → r ≡ forces
is_forces_lem keeps h = absurd (true≢false (sym h))
is_forces_lem forces h = refl
is_forces_lem bars h = absurd (true≢false (sym h))
is_forces_lem was_required h = absurd (true≢false (sym h))
is_forces_lem was_excluded h = absurd (true≢false (sym h))

-- with lifting or without, the ruling of an edge goes by its mark, and by whether it is barred and whether it is forced
pub as_ruled : (lifting : Bool) (g : Network) (d : ℕ → ℤ) (ceiling : ℤ) (e : ℕ)
    → ruling_with lifting g d ceiling e ≡ ruled (g.mark e) (is_bars (ruling_with lifting g d ceiling e)) (is_forces (ruling_with lifting g d ceiling e))
unfolding ruling_with ruling
as_ruled false g d ceiling e = ordinary (g.mark e) (barred_b g d ceiling e) (forced_b g d ceiling e)
  where
    ordinary : (x : Mark) (b f : Bool) → ruled x b f ≡ ruled x (is_bars (ruled x b f)) (is_forces (ruled x b f))
    ordinary required b f = refl
    ordinary excluded b f = refl
    ordinary free true f = refl
    ordinary free false true = refl
    ordinary free false false = refl
as_ruled true g d ceiling e = go (least_tree g d) (g.mark e) (barred_b g d ceiling e) (forced_b g d ceiling e)
  where
    attempt : (t : Edges) (b : Bool) → tried g d ceiling e t b ≡ ruled free (is_bars (tried g d ceiling e t b)) (is_forces (tried g d ceiling e t b))
    attempt t false = case (barred_b g (raised g d t e) ceiling e)
      where
        case : (b : Bool) → cond b bars keeps ≡ ruled free (is_bars (cond b bars keeps)) (is_forces (cond b bars keeps))
        case true = refl
        case false = refl
    attempt t true = case (forced_b g (lowered g d t e) ceiling e)
      where
        case : (b : Bool) → cond b forces keeps ≡ ruled free (is_bars (cond b forces keeps)) (is_forces (cond b forces keeps))
        case true = refl
        case false = refl

    go : (y : Tree) (x : Mark) (b f : Bool)
        → retried g d ceiling e y (ruled x b f) ≡ ruled x (is_bars (retried g d ceiling e y (ruled x b f))) (is_forces (retried g d ceiling e y (ruled x b f)))
    go no_tree required b f = refl
    go no_tree excluded b f = refl
    go no_tree free true f = refl
    go no_tree free false true = refl
    go no_tree free false false = refl
    go (a_tree z t) required b f = refl
    go (a_tree z t) excluded b f = refl
    go (a_tree z t) free true f = refl
    go (a_tree z t) free false true = refl
    go (a_tree z t) free false false = attempt t (t e)

-- ---- "buoy 1's due stays 0"

module _ (g : Network) (d : ℕ → ℤ) (t : Edges) (e : ℕ) where
  no_rise : (i j : ℕ) → i ≡ 1 → rise g d t e i j ≡ pos 0
  unfolding rise rises
  no_rise i j h = go (support g d t e)
    where
      go : (c : Choice) → rise_by g d t e i j c ≡ pos 0
      go none = refl
      go (one s) = rw (eq-eqb i 1 h)

  no_fall : (i j : ℕ) → i ≡ 1 → fall g d t e i j ≡ pos 0
  unfolding fall falls
  no_fall i j h = go (replacement g d t e)
    where
      go : (c : Choice) → fall_by g d t e i j c ≡ pos 0
      go none = refl
      go (one s) = rw (eq-eqb i 1 h)

  stays : (i j : ℕ) (x y : ℤ) → (i ≡ 1 → x ≡ pos 0) → (j ≡ 1 → y ≡ pos 0) → moved d i j x y 1 ≡ d 1
  unfolding moved
  stays i j x y h k = first (ℕ_discrete 1 i)
    where
      none_more : (z w : ℤ) → w ≡ pos 0 → z +ℤ w ≡ z
      none_more z w q = rw q (+ℤ_idr z)

      second : Dec (1 ≡ j) → cond (eqb 1 j) (d 1 +ℤ y) (d 1) ≡ d 1
      second (yes q) = rw (eq-eqb 1 j q) (none_more (d 1) y (k (sym q)))
      second (no q) = rw (ne_eqb 1 j q)

      first : Dec (1 ≡ i) → cond (eqb 1 i) (d 1 +ℤ x) (cond (eqb 1 j) (d 1 +ℤ y) (d 1)) ≡ d 1
      first (yes q) = rw (eq-eqb 1 i q) (none_more (d 1) x (h (sym q)))
      first (no q) = rw (ne_eqb 1 i q) (second (ℕ_discrete 1 j))

  pub raised-one : raised g d t e 1 ≡ d 1
  unfolding raised
  raised-one =
      stays (g.a e) (g.b e) (rise g d t e (g.a e) (g.b e)) (rise g d t e (g.b e) (g.a e)) (no_rise (g.a e) (g.b e)) (no_rise (g.b e) (g.a e))

  pub lowered-one : lowered g d t e 1 ≡ d 1
  unfolding lowered
  lowered-one =
      stays (g.a e) (g.b e) (neg_ℤ (fall g d t e (g.a e) (g.b e))) (neg_ℤ (fall g d t e (g.b e) (g.a e)))
      (λ q. ap neg_ℤ (no_fall (g.a e) (g.b e) q)) (λ q. ap neg_ℤ (no_fall (g.b e) (g.a e) q))

-- ---- in plain words

-- what is ruled of an edge that the ordinary pass keeps: t is the pass's tree
abbrev pub Tried : Network → (ℕ → ℤ) → ℤ → Edges → ℕ → Ruling → Type 0
Tried g d ceiling t e r =
    (t e ≡ false → ((r ≡ bars) ↔ Barred g (raised g d t e) ceiling e) × (r ≢ forces))
    × (t e ≡ true → ((r ≡ forces) ↔ Forced g (lowered g d t e) ceiling e) × (r ≢ bars))

module _ (g : Network) (d : ℕ → ℤ) (ceiling : ℤ) (e : ℕ) (me : e ∈ up_to g.m) where
  -- ---- why an edge is ruled

  -- what a bar comes from: the ordinary pass, or the lifted multipliers of an edge outside the tree
  abbrev pub WhyBars : Type 0
  WhyBars = Barred g d ceiling e
      ⊎ ((b : ℤ) × (t : Edges) × (least_tree g d ≡ a_tree b t) × (t e ≡ false) × Barred g (raised g d t e) ceiling e)

  abbrev pub WhyForces : Type 0
  WhyForces = Forced g d ceiling e
      ⊎ ((b : ℤ) × (t : Edges) × (least_tree g d ≡ a_tree b t) × (t e ≡ true) × Forced g (lowered g d t e) ceiling e)
