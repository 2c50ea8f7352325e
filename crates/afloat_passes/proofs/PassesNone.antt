-- "with none ashore they read as before": where no vertex is inactive, the first node, a pass and the passes of a node are the machine's, with lifting
-- or without, and the machine in plain words opens a node as a machine without a list does. Assumes nothing else.
use Rattle.std.specs.Prelude.{◌≡◌, Bool, false, List, ℕ, zero, suc, ℤ, length, [], ◌∷◌}
use Rattle.std.proofs.Math.Path.{refl, ap, ap₂}
use Rattle.std.proofs.Common.{◌∙◌}
use Rattle.std.proofs.Math.Bool.{cond}
use Rattle.std.specs.Int.Signed.{lt_z}
use Rattle.lists.specs.Rows.{row, row-size}
use Rattle.integers.specs.Multiples.{◌times◌}
use Rattle.graph.specs.Network.{Network, network}
use Rattle.tree_theory.specs.Inputs.{multiplier}
use Rattle.tree_theory.specs.Enumeration.{Tree, no_tree, a_tree, least_tree}
use Rattle.tree_theory.specs.OneTree.{Edges}
use Rattle.tree_theory.specs.Scaled.{scaled_by}
use Rattle.machine.specs.Machine.{Marks, with_marks, mark_by, applied, Pass, shut, found, unclosed, pass_by, pass}
use Rattle.machine.specs.Machine.{gained, branch, concluded, passes, marks_of, Node, node_of, lifts, Opening, opened_on}
use Rattle.afloat.specs.Over.{Ashore, marks_over, multipliers_over, ashore}
use Rattle.afloat.specs.NoneAshore.{least_tree_none, is_tour_none, multiplier_none, mark_none}
use Rattle.afloat.proofs.LiftedNone.{ruling_with_none}
use Rattle.afloat.specs.Lists.{list_row}
use Rattle.afloat_passes.specs.Passing.{applied_over, pass_by_over, pass_over, passes_over, gained_over}
use Rattle.afloat_passes.specs.MachineOver.{begin_over, open_node_over}

module _ (s : Ashore) (none : (v : ℕ) → s v ≡ false) (g : Network) where
  -- THE FIRST NODE
  pub marks_none : marks_over s g ≡ marks_of g
  unfolding marks_over marks_of
  marks_none = λ i. row g.m (λ k. mark_none s none g k i)

  pub multipliers_none : (d : List ℤ) → length d ≡ g.n → multipliers_over s g.n d ≡ d
  unfolding multipliers_over
  multipliers_none d size = ap (row g.n) (multiplier_none s none (multiplier d)) ∙ list_row g.n d size

  pub gained_none : (step : ℕ) (t : Edges) (d : List ℤ) → gained_over s g step t d ≡ gained g step t d
  unfolding gained_over
  gained_none step t d =
      (λ i. row g.n (λ v. cond (none v i) (multiplier d v) (multiplier (gained g step t d) v)))
      ∙ list_row g.n (gained g step t d) (unfold gained in row-size g.n _)

module _ (lifting : Bool) (s : Ashore) (none : (v : ℕ) → s v ≡ false) (g : Network) where
  -- A PASS
  applied_none : (d : ℕ → ℤ) (upper : ℤ) → applied_over lifting s g d upper ≡ applied lifting g d upper
  unfolding applied_over applied
  applied_none d upper = λ i. row g.m (λ k. mark_by (ruling_with_none s none g lifting d upper k i))

  pub pass_none : (d : ℕ → ℤ) (upper : ℤ) → pass_over lifting s g d upper ≡ pass lifting g d upper
  unfolding pass_over pass
  pass_none d upper = ap (pass_by_over lifting s g d upper) (least_tree_none s none g d) ∙ go (least_tree g d)
    where
      go : (x : Tree) → pass_by_over lifting s g d upper x ≡ pass_by lifting g d upper x
      go no_tree = unfold pass_by_over pass_by in refl
      go (a_tree b t) =
          unfold pass_by_over pass_by in
          ap₂ (λ (y : Bool) (x : Marks). cond (lt_z upper b) shut (cond y (found t) (unclosed t x))) (is_tour_none s none g t) (applied_none d upper)

-- THE PASSES OF A NODE
pub passes_none : (lifting : Bool) (s : Ashore) → ((v : ℕ) → s v ≡ false) → (g : Network) (step : ℕ) (upper : ℤ) (left : ℕ) (d : List ℤ) (x : Marks)
    → passes_over lifting s g step upper left d x ≡ passes lifting g step upper left d x
unfolding passes_over passes
passes_none lifting s none g step upper zero d x =
    ap (λ (p : Pass). concluded g.m p (λ t y. branch d y)) (pass_none lifting s none (with_marks g x) (multiplier d) upper)
passes_none lifting s none g step upper (suc left) d x = λ i.
    concluded g.m (pass_none lifting s none (with_marks g x) (multiplier d) upper i)
    (λ t y. (ap (λ (e : List ℤ). passes_over lifting s g step upper left e y) (gained_none s none g step t d)
    ∙ passes_none lifting s none g step upper left (gained g step t d) y) i)

module _ (o : Opening) (none : (v : ℕ) → ashore o.ashore v ≡ false) where
  -- THE MACHINE IN PLAIN WORDS: its first node
  pub begin_none : length o.multipliers ≡ o.graph.n → (begin_over o).stack ≡ node_of o.multipliers (marks_of (network o.graph)) ∷ []
  unfolding begin_over
  begin_none size =
      ap₂ (λ (d : List ℤ) x. node_of d x ∷ []) (multipliers_none (ashore o.ashore) none (network o.graph) o.multipliers size)
      (marks_none (ashore o.ashore) none (network o.graph))

  -- and the opening of a node
  pub open_node_none : (upper : ℤ) (x : Node) → open_node_over o upper x ≡ opened_on (network o.graph) o.settings upper x
  unfolding open_node_over opened_on
  open_node_none upper x =
      let q = o.settings.denominator in
      passes_none (lifts o.settings) (ashore o.ashore) none (scaled_by q (network o.graph)) o.settings.step (q times upper) o.settings.sweeps
      x.multipliers x.marks
