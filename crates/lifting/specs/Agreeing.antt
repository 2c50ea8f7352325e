-- A tree counts only as far as the edges go: trees that agree on the edges 1 to m have the same supports, replacements and lifted multipliers.
use Rattle.std.specs.Prelude.{◌≡◌, ◌&&◌, List, [], ◌∷◌, ℕ, ℤ}
use Rattle.std.proofs.Math.Path.{refl}
use Rattle.std.proofs.Common.{sym, inl, inr}
use Rattle.std.proofs.Math.Bool.{not}
-- tests that pass alike are one
pub use Rattle.std.specs.Cmp.{both_ways as same_test}
use Rattle.lists.specs.Members.{◌∈◌}
use Rattle.lists.specs.Select.{select, select_cong}
use Rattle.lists.specs.Numbers.{up_to}
use Rattle.lists.specs.Sets.{◌⊕◌, ◌⊖◌}
use Rattle.graph.specs.Network.{Network}
use Rattle.tree_theory.specs.OneTree.{Edges}
use Rattle.tree_theory.specs.Enumeration.{is_one_tree}
use Rattle.tree_theory.specs.Decide.{test_tree, tree_test}
use Rattle.tree_theory.specs.Agree.{Agree, tree_agree}
use Rattle.tree_theory.specs.Valid.{is_required, is_excluded}
use Rattle.tours.specs.Degrees.{degree_agree}
use Rattle.lifting.specs.Lifted.{touches, is_giver, is_taker, support, replacement, reduced_cost, replacement_cost, gather, rise_limits, fall_limits}
use Rattle.lifting.specs.Lifted.{rises, falls, rise, fall, rise_by, fall_by, Choice, none, one, raised, lowered}

pub gather_cong : (f h : ℕ → List ℤ) (ks : List ℕ) → ((k : ℕ) → k ∈ ks → f k ≡ h k) → gather f ks ≡ gather h ks
unfolding gather
gather_cong f h [] e = refl
gather_cong f h (k ∷ ks) e = rw (e k (inl refl), gather_cong f h ks (λ j i. e j (inr i)))

module _ (g : Network) (s t : Edges) (same : Agree g.m s t) where
  swapped : (a b : ℕ) → Agree g.m (s ⊖ a ⊕ b) (t ⊖ a ⊕ b)
  unfolding ◌⊕◌ ◌⊖◌
  swapped a b k i = rw (same k i)

  swapped_tree : (a b : ℕ) → is_one_tree g (s ⊖ a ⊕ b) ≡ is_one_tree g (t ⊖ a ⊕ b)
  swapped_tree a b =
      same_test (is_one_tree g (s ⊖ a ⊕ b)) (is_one_tree g (t ⊖ a ⊕ b))
      (λ h. tree_test g (t ⊖ a ⊕ b) (tree_agree g (t ⊖ a ⊕ b) (s ⊖ a ⊕ b) (λ k i. sym (swapped a b k i)) (test_tree g (s ⊖ a ⊕ b) h)))
      (λ h. tree_test g (s ⊖ a ⊕ b) (tree_agree g (s ⊖ a ⊕ b) (t ⊖ a ⊕ b) (swapped a b) (test_tree g (t ⊖ a ⊕ b) h)))

  giver_agree : (e k : ℕ) → k ∈ up_to g.m → is_giver g s e k ≡ is_giver g t e k
  unfolding is_giver
  giver_agree e k i = rw (same k i, swapped_tree k e)

  taker_agree : (e k : ℕ) → k ∈ up_to g.m → is_taker g s e k ≡ is_taker g t e k
  unfolding is_taker
  taker_agree e k i = rw (same k i, swapped_tree e k)

  module _ (d : ℕ → ℤ) where
    pub support_agree : (e : ℕ) → support g d s e ≡ support g d t e
    unfolding support
    support_agree e = rw (select_cong (is_giver g s e) (is_giver g t e) (up_to g.m) (giver_agree e))

    pub replacement_agree : (e : ℕ) → replacement g d s e ≡ replacement g d t e
    unfolding replacement
    replacement_agree e = rw (select_cong (is_taker g s e) (is_taker g t e) (up_to g.m) (taker_agree e))

    reduced_agree : (e : ℕ) → reduced_cost g d s e ≡ reduced_cost g d t e
    unfolding reduced_cost
    reduced_agree e = rw (support_agree e)

    replaced_agree : (e : ℕ) → replacement_cost g d s e ≡ replacement_cost g d t e
    unfolding replacement_cost
    replaced_agree e = rw (replacement_agree e)

    rise_limits_agree : (e p i j : ℕ) → rise_limits g d s e p i j ≡ rise_limits g d t e p i j
    unfolding rise_limits
    rise_limits_agree e p i j =
        rw (
          select_cong (λ f. (s f && not (is_required (g.mark f))) && touches g i f) (λ f. (t f && not (is_required (g.mark f))) && touches g i f) (up_to g.m)
              (λ k m. rw (same k m)),
          select_cong (λ f. is_giver g s e f && touches g i f) (λ f. is_giver g t e f && touches g i f) (up_to g.m) (λ k m. rw (giver_agree e k m)),
          gather_cong (replacement_cost g d s) (replacement_cost g d t)
              (select (λ f. (t f && not (is_required (g.mark f))) && touches g i f) (up_to g.m)) (λ k m. replaced_agree k),
        )

    fall_limits_agree : (e p i j : ℕ) → fall_limits g d s e p i j ≡ fall_limits g d t e p i j
    unfolding fall_limits
    fall_limits_agree e p i j =
        rw (
          select_cong (λ f. (not (s f) && not (is_excluded (g.mark f))) && touches g i f) (λ f. (not (t f) && not (is_excluded (g.mark f))) && touches g i f)
              (up_to g.m) (λ k m. rw (same k m)),
          select_cong (λ f. is_taker g s e f && touches g i f) (λ f. is_taker g t e f && touches g i f) (up_to g.m) (λ k m. rw (taker_agree e k m)),
          gather_cong (reduced_cost g d s) (reduced_cost g d t)
              (select (λ f. (not (t f) && not (is_excluded (g.mark f))) && touches g i f) (up_to g.m)) (λ k m. reduced_agree k),
        )

    rises_agree : (p i : ℕ) → rises g s p i ≡ rises g t p i
    unfolding rises
    rises_agree p i = rw (degree_agree g s t same i)

    falls_agree : (p i : ℕ) → falls g s p i ≡ falls g t p i
    unfolding falls
    falls_agree p i = rw (degree_agree g s t same i)

    pub rise_agree : (e i j : ℕ) → rise g d s e i j ≡ rise g d t e i j
    unfolding rise
    rise_agree e i j = rw (support_agree e) (go (support g d t e))
      where
        go : (c : Choice) → rise_by g d s e i j c ≡ rise_by g d t e i j c
        go none = refl
        go (one p) = rw (rises_agree p i, rise_limits_agree e p i j)

    pub fall_agree : (e i j : ℕ) → fall g d s e i j ≡ fall g d t e i j
    unfolding fall
    fall_agree e i j = rw (replacement_agree e) (go (replacement g d t e))
      where
        go : (c : Choice) → fall_by g d s e i j c ≡ fall_by g d t e i j c
        go none = refl
        go (one p) = rw (falls_agree p i, fall_limits_agree e p i j)

    pub raised_agree : (e : ℕ) → raised g d s e ≡ raised g d t e
    unfolding raised
    raised_agree e = rw (rise_agree e (g.a e) (g.b e), rise_agree e (g.b e) (g.a e))

    pub lowered_agree : (e : ℕ) → lowered g d s e ≡ lowered g d t e
    unfolding lowered
    lowered_agree e = rw (fall_agree e (g.a e) (g.b e), fall_agree e (g.b e) (g.a e))
