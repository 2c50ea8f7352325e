-- A pass and the passes of a node over the active vertices, as the machine has them over all, with lifting or without (document 02, C-13): with the
-- tree, the rulings and the test for a tour over the active vertices. Marks, lists of multipliers and nodes are in the numbers of the network, and
-- have all vertices and edges. Definitions only.
use Rattle.std.specs.Prelude.{Bool, cond, List, ℕ, zero, suc, ℤ}
use Rattle.std.specs.Int.Signed.{lt_z}
use Rattle.lists.specs.Rows.{row}
use Rattle.graph.specs.Network.{Network}
use Rattle.tree_theory.specs.OneTree.{Edges}
use Rattle.tree_theory.specs.Inputs.{multiplier}
use Rattle.tree_theory.specs.Enumeration.{Tree, no_tree, a_tree}
use Rattle.machine.specs.Machine.{Marks, Opened, with_marks, mark_by, Pass, shut, found, unclosed, gained, branch, concluded}
use Rattle.afloat.specs.Over.{Ashore}
use Rattle.afloat.specs.Values.{tree_over, is_tour_over}
use Rattle.afloat.specs.LiftedOver.{ruling_with_over}

-- ---- a pass

unfoldable pub applied_over : Bool → Ashore → Network → (ℕ → ℤ) → ℤ → Marks
unfolding row ruling_with_over
applied_over lifting s g d upper = row g.m (λ k. mark_by (ruling_with_over lifting s g d upper k))

unfoldable pub pass_by_over : Bool → Ashore → Network → (ℕ → ℤ) → ℤ → Tree → Pass
unfolding is_tour_over applied_over
pass_by_over lifting s g d upper no_tree = shut
pass_by_over lifting s g d upper (a_tree bound t) =
    cond (lt_z upper bound) shut
    (cond (is_tour_over s g t) (found t)
    (unclosed t (applied_over lifting s g d upper)))

unfoldable pub pass_over : Bool → Ashore → Network → (ℕ → ℤ) → ℤ → Pass
unfolding pass_by_over tree_over
pass_over lifting s g d upper = pass_by_over lifting s g d upper (tree_over s g d)

-- "and no pass changes it": the others gain as ever
unfoldable pub gained_over : Ashore → Network → ℕ → Edges → List ℤ → List ℤ
unfolding row multiplier gained
gained_over s g step t d = row g.n (λ v. cond (s v) (multiplier d v) (multiplier (gained g step t d) v))

-- ---- the passes of a node

unfoldable pub passes_over : Bool → Ashore → Network → ℕ → ℤ → ℕ → List ℤ → Marks → Opened
unfolding with_marks pass_over multiplier branch gained_over
passes_over lifting s g step upper zero d x =
    concluded g.m (pass_over lifting s (with_marks g x) (multiplier d) upper) (λ t y. branch d y)
passes_over lifting s g step upper (suc left) d x =
    concluded g.m (pass_over lifting s (with_marks g x) (multiplier d) upper)
    (λ t y. passes_over lifting s g step upper left (gained_over s g step t d) y)
