-- "with none ashore they read as before": where no vertex is inactive, the rulings with lifted multipliers over the active vertices are Lifted's.
-- Assumes nothing else.
use Rattle.std.specs.Prelude.{◌≡◌, Bool, cond, ◌&&◌, ◌++◌, map, ℕ, eqb, ℤ, neg_ℤ, ◌-ℤ◌}
use Rattle.std.proofs.Math.Path.{refl, ap, ap₂}
use Rattle.std.proofs.Common.{◌∙◌}
use Rattle.std.proofs.Math.Bool.{true, false, not}
use mathlib.Core.List.{[]}
use Rattle.std.specs.Int.Signed.{lt_z}
use Rattle.lists.specs.Select.{select}
use Rattle.lists.specs.Numbers.{up_to}
use Rattle.lists.specs.Sets.{◌⊕◌, ◌⊖◌}
use Rattle.graph.specs.Network.{Network}
use Rattle.tree_theory.specs.OneTree.{Edges, charge}
use Rattle.tree_theory.specs.Enumeration.{Tree, no_tree, a_tree, least_tree, barred_b, forced_b}
use Rattle.tree_theory.specs.Enumeration.{Ruling, keeps, forces, bars, was_required, was_excluded, ruling}
use Rattle.tree_theory.specs.Valid.{is_required, is_excluded}
use Rattle.lifting.specs.Lifted.{touches, is_giver, is_taker, Choice, none, one, best, support, replacement, limit, reduced_cost, replacement_cost}
use Rattle.lifting.specs.Lifted.{gather, rise_limits, fall_limits, rise_by, fall_by, rise, fall, moved, raised, lowered}
use Rattle.lifting.specs.Lifted.{tried, retried, ruling_with}
use Rattle.afloat.specs.Over.{Ashore}
use Rattle.afloat.specs.LiftedOver.{charge_over, is_giver_over, is_taker_over, support_over, replacement_over, reduced_cost_over, replacement_cost_over}
use Rattle.afloat.specs.LiftedOver.{rise_limits_over, fall_limits_over, rise_by_over, fall_by_over, rise_over, fall_over, raised_over, lowered_over}
use Rattle.afloat.specs.LiftedOver.{tried_over, retried_over, ruling_with_over}
use Rattle.afloat.specs.NoneAshore.{multiplier_none, mark_none, test_none, least_tree_none, is_barred_none, is_forced_none, ruling_none}

module _ (s : Ashore) (none-ashore : (v : ℕ) → s v ≡ false) (g : Network) where
  charge_none : (d : ℕ → ℤ) (k : ℕ) → charge_over s g d k ≡ charge g d k
  unfolding charge_over
  charge_none d k = λ i. charge g (multiplier_none s none-ashore d i) k

  module _ (t : Edges) where
    giver_none : (e k : ℕ) → is_giver_over s g t e k ≡ is_giver g t e k
    unfolding is_giver_over is_giver
    giver_none e k = λ i.
        t k && not (is_required (mark_none s none-ashore g k i)) && test_none s none-ashore g (t ⊖ k ⊕ e) i

    taker_none : (e k : ℕ) → is_taker_over s g t e k ≡ is_taker g t e k
    unfolding is_taker_over is_taker
    taker_none e k = λ i.
        not (t k) && not (is_excluded (mark_none s none-ashore g k i)) && test_none s none-ashore g (t ⊖ e ⊕ k) i

    module _ (d : ℕ → ℤ) where
      support_none : (e : ℕ) → support_over s g d t e ≡ support g d t e
      unfolding support_over support
      support_none e = λ i. best (λ k j. lt_z (charge_none d j i) (charge_none d k i)) (select (λ k. giver_none e k i) (up_to g.m))

      replacement_none : (e : ℕ) → replacement_over s g d t e ≡ replacement g d t e
      unfolding replacement_over replacement
      replacement_none e = λ i. best (λ k j. lt_z (charge_none d k i) (charge_none d j i)) (select (λ k. taker_none e k i) (up_to g.m))

      reduced_cost_none : (e : ℕ) → reduced_cost_over s g d t e ≡ reduced_cost g d t e
      unfolding reduced_cost_over reduced_cost
      reduced_cost_none e = λ i. limit (support_none e i) (λ p. charge_none d e i -ℤ charge_none d p i)

      replacement_cost_none : (e : ℕ) → replacement_cost_over s g d t e ≡ replacement_cost g d t e
      unfolding replacement_cost_over replacement_cost
      replacement_cost_none e = λ i. limit (replacement_none e i) (λ r. charge_none d r i -ℤ charge_none d e i)

      module _ (e i j : ℕ) where
        rise_limits_none : (p : ℕ) → rise_limits_over s g d t e p i j ≡ rise_limits g d t e p i j
        unfolding rise_limits_over rise_limits
        rise_limits_none p = λ x.
            gather (λ k. replacement_cost_none k x)
            (select (λ k. (t k && not (is_required (mark_none s none-ashore g k x))) && touches g i k) (up_to g.m))
            ++ cond (eqb j 1) []
            (map (λ k. charge_none d p x -ℤ charge_none d k x) (select (λ k. giver_none e k x && touches g i k) (up_to g.m)))

        fall_limits_none : (r : ℕ) → fall_limits_over s g d t e r i j ≡ fall_limits g d t e r i j
        unfolding fall_limits_over fall_limits
        fall_limits_none r = λ x.
            gather (λ k. reduced_cost_none k x)
            (select (λ k. (not (t k) && not (is_excluded (mark_none s none-ashore g k x))) && touches g i k) (up_to g.m))
            ++ cond (eqb j 1) []
            (map (λ k. charge_none d k x -ℤ charge_none d r x) (select (λ k. taker_none e k x && touches g i k) (up_to g.m)))

        rise_none : rise_over s g d t e i j ≡ rise g d t e i j
        unfolding rise_over rise
        rise_none = ap (rise_by_over s g d t e i j) (support_none e) ∙ go (support g d t e)
          where
            go : (x : Choice) → rise_by_over s g d t e i j x ≡ rise_by g d t e i j x
            go none = refl
            go (one p) = rw (rise_limits_none p)

        fall_none : fall_over s g d t e i j ≡ fall g d t e i j
        unfolding fall_over fall
        fall_none = ap (fall_by_over s g d t e i j) (replacement_none e) ∙ go (replacement g d t e)
          where
            go : (x : Choice) → fall_by_over s g d t e i j x ≡ fall_by g d t e i j x
            go none = refl
            go (one r) = rw (fall_limits_none r)

      raised_none : (e : ℕ) → raised_over s g d t e ≡ raised g d t e
      unfolding raised_over raised
      raised_none e = λ i. moved d (g.a e) (g.b e) (rise_none e (g.a e) (g.b e) i) (rise_none e (g.b e) (g.a e) i)

      lowered_none : (e : ℕ) → lowered_over s g d t e ≡ lowered g d t e
      unfolding lowered_over lowered
      lowered_none e = λ i. moved d (g.a e) (g.b e) (neg_ℤ (fall_none e (g.a e) (g.b e) i)) (neg_ℤ (fall_none e (g.b e) (g.a e) i))

      tried_none : (ceiling : ℤ) (e : ℕ) (b : Bool) → tried_over s g d ceiling e t b ≡ tried g d ceiling e t b
      tried_none ceiling e false =
          ap (λ (b : Bool). cond b bars keeps)
          (is_barred_none s none-ashore g (raised_over s g d t e) ceiling e ∙ ap (λ (x : ℕ → ℤ). barred_b g x ceiling e) (raised_none e))
      tried_none ceiling e true =
          ap (λ (b : Bool). cond b forces keeps)
          (is_forced_none s none-ashore g (lowered_over s g d t e) ceiling e ∙ ap (λ (x : ℕ → ℤ). forced_b g x ceiling e) (lowered_none e))

  -- THE RULINGS, with lifting or without
  pub ruling_with_none : (lifting : Bool) (d : ℕ → ℤ) (ceiling : ℤ) (k : ℕ)
      → ruling_with_over lifting s g d ceiling k ≡ ruling_with lifting g d ceiling k
  unfolding ruling_with_over ruling_with
  ruling_with_none false d ceiling k = ruling_none s none-ashore g d ceiling k
  ruling_with_none true d ceiling k =
      ap₂ (retried_over s g d ceiling k) (least_tree_none s none-ashore g d) (ruling_none s none-ashore g d ceiling k)
      ∙ go (least_tree g d) (ruling g d ceiling k)
    where
      go : (x : Tree) (r : Ruling) → retried_over s g d ceiling k x r ≡ retried g d ceiling k x r
      go no_tree r = refl
      go (a_tree b t) keeps = tried_none t d ceiling k (t k)
      go (a_tree b t) forces = refl
      go (a_tree b t) bars = refl
      go (a_tree b t) was_required = refl
      go (a_tree b t) was_excluded = refl
