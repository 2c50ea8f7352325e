-- Document 02's C-13 over the active vertices (C-20): the rulings with lifted multipliers in the network's own numbers, line by line as Lifted has
-- them, with the 1-trees over the active vertices for the 1-trees, the marks that count for the marks, and charges under the multipliers that count.
-- What asks for none of these is Lifted's own: the best of a list, a limit, the ends of an edge, degrees, 'vertex 1'. Definitions only; the
-- quotations stand in Lifted.
use Rattle.std.specs.Prelude.{Bool, true, false, not, cond, ◌&&◌, List, [], ◌++◌, map, ℕ, eqb, ℤ, pos, neg_ℤ, ◌+ℤ◌, ◌-ℤ◌}
use Rattle.std.specs.Int.Signed.{lt_z}
use Rattle.lists.specs.Select.{select}
use Rattle.lists.specs.Numbers.{up_to}
use Rattle.lists.specs.Sets.{◌⊕◌, ◌⊖◌}
use Rattle.graph.specs.Limits.{max_multiplier}
use Rattle.graph.specs.Network.{Network}
use Rattle.tree_theory.specs.OneTree.{Edges, charge}
use Rattle.tree_theory.specs.Enumeration.{Tree, no_tree, a_tree, Ruling, keeps, forces, bars, was_required, was_excluded}
use Rattle.tree_theory.specs.Valid.{is_required, is_excluded}
use Rattle.lifting.specs.Lifted.{touches, Choice, none, one, best, limit, gather, at_most, rises, falls, moved}
use Rattle.afloat.specs.Over.{Ashore, mark_over, multiplier_over}
use Rattle.afloat.specs.Values.{is_one_tree_over, tree_over, is_barred_over, is_forced_over, ruling_over}

-- document 01's charged cost, with the multipliers that count
unfoldable pub charge_over : Ashore → Network → (ℕ → ℤ) → ℕ → ℤ
unfolding charge
charge_over s g d k = charge g (multiplier_over s d) k

-- ---- supports and replacements

unfoldable pub is_giver_over : Ashore → Network → Edges → ℕ → ℕ → Bool
unfolding is_one_tree_over ◌⊕◌ ◌⊖◌
is_giver_over s g t e p = t p && not (is_required (mark_over s g p)) && is_one_tree_over s g (t ⊖ p ⊕ e)

unfoldable pub is_taker_over : Ashore → Network → Edges → ℕ → ℕ → Bool
unfolding is_one_tree_over ◌⊕◌ ◌⊖◌
is_taker_over s g t e r = not (t r) && not (is_excluded (mark_over s g r)) && is_one_tree_over s g (t ⊖ e ⊕ r)

unfoldable pub support_over : Ashore → Network → (ℕ → ℤ) → Edges → ℕ → Choice
unfolding best select up_to is_giver_over charge_over
support_over s g d t e = best (λ k j. lt_z (charge_over s g d j) (charge_over s g d k)) (select (is_giver_over s g t e) (up_to g.m))

unfoldable pub replacement_over : Ashore → Network → (ℕ → ℤ) → Edges → ℕ → Choice
unfolding best select up_to is_taker_over charge_over
replacement_over s g d t e = best (λ k j. lt_z (charge_over s g d k) (charge_over s g d j)) (select (is_taker_over s g t e) (up_to g.m))

unfoldable pub reduced_cost_over : Ashore → Network → (ℕ → ℤ) → Edges → ℕ → List ℤ
unfolding support_over charge_over
reduced_cost_over s g d t e = limit (support_over s g d t e) (λ p. charge_over s g d e -ℤ charge_over s g d p)

unfoldable pub replacement_cost_over : Ashore → Network → (ℕ → ℤ) → Edges → ℕ → List ℤ
unfolding replacement_over charge_over
replacement_cost_over s g d t e = limit (replacement_over s g d t e) (λ r. charge_over s g d r -ℤ charge_over s g d e)

-- ---- how far an end moves: i is the end of e in question, j the other one. An edge that is tried is untouched, so its ends are active, and their
-- multipliers count as they are

unfoldable pub rise_limits_over : Ashore → Network → (ℕ → ℤ) → Edges → ℕ → ℕ → ℕ → ℕ → List ℤ
unfolding gather select up_to is_giver_over charge_over replacement_cost_over
rise_limits_over s g d t e p i j =
    gather (replacement_cost_over s g d t) (select (λ f. (t f && not (is_required (mark_over s g f))) && touches g i f) (up_to g.m))
    ++ cond (eqb j 1) []
    (map (λ f. charge_over s g d p -ℤ charge_over s g d f) (select (λ f. is_giver_over s g t e f && touches g i f) (up_to g.m)))

unfoldable pub fall_limits_over : Ashore → Network → (ℕ → ℤ) → Edges → ℕ → ℕ → ℕ → ℕ → List ℤ
unfolding gather select up_to is_taker_over charge_over reduced_cost_over
fall_limits_over s g d t e r i j =
    gather (reduced_cost_over s g d t) (select (λ h. (not (t h) && not (is_excluded (mark_over s g h))) && touches g i h) (up_to g.m))
    ++ cond (eqb j 1) []
    (map (λ h. charge_over s g d h -ℤ charge_over s g d r) (select (λ h. is_taker_over s g t e h && touches g i h) (up_to g.m)))

abbrev pub rise_by_over : Ashore → Network → (ℕ → ℤ) → Edges → ℕ → ℕ → ℕ → Choice → ℤ
rise_by_over s g d t e i j none = pos 0
rise_by_over s g d t e i j (one p) =
    cond (rises g t p i) (at_most (pos max_multiplier -ℤ d i) (rise_limits_over s g d t e p i j)) (pos 0)

abbrev pub fall_by_over : Ashore → Network → (ℕ → ℤ) → Edges → ℕ → ℕ → ℕ → Choice → ℤ
fall_by_over s g d t e i j none = pos 0
fall_by_over s g d t e i j (one r) =
    cond (falls g t r i) (at_most (d i +ℤ pos max_multiplier) (fall_limits_over s g d t e r i j)) (pos 0)

unfoldable pub rise_over : Ashore → Network → (ℕ → ℤ) → Edges → ℕ → ℕ → ℕ → ℤ
unfolding support_over rises rise_limits_over at_most
rise_over s g d t e i j = rise_by_over s g d t e i j (support_over s g d t e)

unfoldable pub fall_over : Ashore → Network → (ℕ → ℤ) → Edges → ℕ → ℕ → ℕ → ℤ
unfolding replacement_over falls fall_limits_over at_most
fall_over s g d t e i j = fall_by_over s g d t e i j (replacement_over s g d t e)

-- ---- the lifted multipliers

unfoldable pub raised_over : Ashore → Network → (ℕ → ℤ) → Edges → ℕ → ℕ → ℤ
unfolding moved rise_over
raised_over s g d t e = moved d (g.a e) (g.b e) (rise_over s g d t e (g.a e) (g.b e)) (rise_over s g d t e (g.b e) (g.a e))

unfoldable pub lowered_over : Ashore → Network → (ℕ → ℤ) → Edges → ℕ → ℕ → ℤ
unfolding moved fall_over
lowered_over s g d t e = moved d (g.a e) (g.b e) (neg_ℤ (fall_over s g d t e (g.a e) (g.b e))) (neg_ℤ (fall_over s g d t e (g.b e) (g.a e)))

-- ---- the rulings of a pass

abbrev pub tried_over : Ashore → Network → (ℕ → ℤ) → ℤ → ℕ → Edges → Bool → Ruling
tried_over s g d ceiling e t false = cond (is_barred_over s g (raised_over s g d t e) ceiling e) bars keeps
tried_over s g d ceiling e t true = cond (is_forced_over s g (lowered_over s g d t e) ceiling e) forces keeps

abbrev pub retried_over : Ashore → Network → (ℕ → ℤ) → ℤ → ℕ → Tree → Ruling → Ruling
retried_over s g d ceiling e no_tree r = r
retried_over s g d ceiling e (a_tree b t) keeps = tried_over s g d ceiling e t (t e)
retried_over s g d ceiling e (a_tree b t) forces = forces
retried_over s g d ceiling e (a_tree b t) bars = bars
retried_over s g d ceiling e (a_tree b t) was_required = was_required
retried_over s g d ceiling e (a_tree b t) was_excluded = was_excluded

-- "A yes or no at opening turns lifting on". Whatever it says, a touched edge is ruled 'already struck': an edge's ruling is tried again only where
-- it is kept
unfoldable pub ruling_with_over : Bool → Ashore → Network → (ℕ → ℤ) → ℤ → ℕ → Ruling
unfolding ruling_over tree_over is_barred_over is_forced_over raised_over lowered_over
ruling_with_over false s g d ceiling e = ruling_over s g d ceiling e
ruling_with_over true s g d ceiling e = retried_over s g d ceiling e (tree_over s g d) (ruling_over s g d ceiling e)
