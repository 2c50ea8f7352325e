-- On document 01's four-buoy sea with buoy 4 ashore, by computation: the tree is legs 1, 2 and 4 with bound 9, also where leg 3, which touches buoy
-- 4, is required or where d(4) is 7; at q = 10 the bound is 90; legs that touch buoy 4 are ruled 'already struck'; and lists to which refusal 35
-- applies.
use Rattle.std.specs.Prelude.{◌≡◌, refl, List, [], ◌∷◌, Bool, true, false, ◌||◌, ℕ, eqb, ℤ, pos}
use Rattle.lists.specs.Rows.{row}
use Rattle.graph.specs.declared.Graph.{Graph}
use Rattle.graph.specs.Network.{mark_of, network}
use Rattle.tree_theory.specs.Inputs.{multiplier}
use Rattle.tree_theory.specs.Enumeration.{Tree, no_tree, a_tree, forces, was_excluded}
use Rattle.tree_theory.specs.Scaled.{scaled_by}
use Rattle.tours.specs.Tours.{is_tour}
use Rattle.afloat.specs.Over.{ashore, ashore_fault}
use Rattle.afloat.specs.Values.{tree_over, ruling_over, is_tour_over}

-- the sea, with the given mark on leg 3
abbrev four_with : ℕ → Graph
four_with third = record {
  n = 4;
  m = 6;
  a = 1 ∷ 1 ∷ 1 ∷ 2 ∷ 2 ∷ 3 ∷ [];
  b = 2 ∷ 3 ∷ 4 ∷ 3 ∷ 4 ∷ 4 ∷ [];
  cost = pos 4 ∷ pos 3 ∷ pos 5 ∷ pos 2 ∷ pos 6 ∷ pos 1 ∷ [];
  mark = 0 ∷ 0 ∷ third ∷ 0 ∷ 0 ∷ 0 ∷ [];
}

abbrev told : Tree → ℤ × List Bool
told no_tree = (pos 0, [])
told (a_tree b t) = (b, row 6 t)

abbrev last_ashore : List ℕ
last_ashore = 0 ∷ 0 ∷ 0 ∷ 1 ∷ []

abbrev tree : ℕ → ℕ → List ℤ → ℤ × List Bool
tree q third d = told (tree_over (ashore last_ashore) (scaled_by q (network (four_with third))) (multiplier d))

abbrev three : List Bool
three = true ∷ true ∷ false ∷ true ∷ false ∷ false ∷ []

plain : tree 1 0 (pos 0 ∷ pos 0 ∷ pos 0 ∷ pos 0 ∷ []) ≡ (pos 9, three)
unfolding tree_over network ashore row mark_of multiplier
plain = refl

required_touched : tree 1 1 (pos 0 ∷ pos 0 ∷ pos 0 ∷ pos 0 ∷ []) ≡ (pos 9, three)
unfolding tree_over network ashore row mark_of multiplier
required_touched = refl

due_ashore : tree 1 0 (pos 0 ∷ pos 0 ∷ pos 0 ∷ pos 7 ∷ []) ≡ (pos 9, three)
unfolding tree_over network ashore row mark_of multiplier
due_ashore = refl

in_tenths : tree 10 1 (pos 0 ∷ pos 0 ∷ pos 0 ∷ pos 7 ∷ []) ≡ (pos 90, three)
unfolding tree_over network ashore row mark_of multiplier
in_tenths = refl

rulings : row 6 (ruling_over (ashore last_ashore) (network (four_with 1)) (multiplier (pos 0 ∷ pos 0 ∷ pos 0 ∷ pos 7 ∷ [])) (pos 9))
    ≡ forces ∷ forces ∷ was_excluded ∷ forces ∷ was_excluded ∷ was_excluded ∷ []
unfolding ruling_over network ashore row mark_of multiplier
rulings = refl

-- legs 1, 2 and 4 are a round of the three buoys afloat, and none of all four
abbrev legs124 : ℕ → Bool
legs124 k = eqb k 1 || (eqb k 2 || eqb k 4)

round : is_tour_over (ashore last_ashore) (network (four_with 0)) legs124 ≡ true
unfolding is_tour_over network ashore
round = refl

no_round : is_tour (network (four_with 0)) legs124 ≡ false
unfolding is_tour network
no_round = refl

-- ---- refusal 35

fits : ashore_fault last_ashore 4 ≡ 0
unfolding ashore_fault
fits = refl

byte_above_one : ashore_fault (0 ∷ 0 ∷ 0 ∷ 2 ∷ []) 4 ≡ 35
unfolding ashore_fault
byte_above_one = refl

first-ashore : ashore_fault (1 ∷ 0 ∷ 0 ∷ 0 ∷ []) 4 ≡ 35
unfolding ashore_fault
first-ashore = refl

two_afloat : ashore_fault (0 ∷ 1 ∷ 0 ∷ 1 ∷ []) 4 ≡ 35
unfolding ashore_fault
two_afloat = refl
