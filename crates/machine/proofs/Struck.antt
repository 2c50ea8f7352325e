-- WHAT TOUCHES AN INACTIVE VERTEX STAYS EXCLUDED: a pass and a branch let no excluded edge in again. Nothing is asked of the rulings but that. Assumes
-- nothing.
use Rattle.std.specs.Prelude.{◌≡◌, Bool, cond, List, ltb, length, ℤ}
use Rattle.std.proofs.Common.{◌∙◌, sym, ap, ltb-true, get_or-set_other}
use Rattle.std.proofs.Math.Bool.{true, false}
use Prim.Native.Nat.{ℕ, zero, suc, ◌<◌}
use Rattle.std.proofs.Math.Decide.{ℕ_discrete}
use Rattle.std.proofs.Math.ListN.{get_or, set}
use Rattle.std.specs.Int.Signed.{lt_z}
use Rattle.lists.specs.Bools.{by_cases}
use Rattle.graph.specs.Network.{Network, Mark, free, excluded}
use Rattle.tree_theory.specs.OneTree.{Edges}
use Rattle.tree_theory.specs.Inputs.{multiplier}
use Rattle.tree_theory.specs.Enumeration.{Tree, no_tree, a_tree, least_tree}
use Rattle.tree_theory.specs.Valid.{Valid}
use Rattle.tree_theory.specs.Scaled.{scaled_by}
use Rattle.tree_theory.specs.Scaling.{valid_scaled}
use Rattle.tours.specs.Tours.{is_tour}
use Rattle.machine.specs.declared.Settings.{Settings}
use Rattle.machine.specs.Outcomes.{closes, finds, splits}
use Rattle.machine.specs.Machine.{Marks, Node, with_marks, applied, Pass, shut, found, unclosed, pass_by, pass, gained, Opened, first_free}
use Rattle.machine.specs.Machine.{branch, concluded, passes, lifts, opened_on}
use Rattle.machine.specs.Laws.Branching.{first_free_lem}
use Rattle.machine.proofs.Applied.{ruled-off}
use Rattle.machine.specs.Kept.{Off}

-- a free edge that is marked otherwise is none of those
set_off : (m : ℕ) (c : Edges) (y : Marks) (k : ℕ) (z : Mark) → k < length y → get_or y k free ≡ free → Off m c y → Off m c (set y k z)
set_off m c y k z l f h j b e = go (ℕ_discrete j k)
  where
    clash : free ≡ excluded → ⊥
    clash q = cc

    go : Dec (j ≡ k) → get_or (set y k z) j free ≡ excluded
    go (yes q) = absurd (clash (sym f ∙ ap (λ (i : ℕ). get_or y i free) (sym q) ∙ h j b e))
    go (no q) = get_or-set_other y k j z free q ∙ h j b e

module _ (m : ℕ) (c : Edges) where
  -- both halves of a split
  abbrev pub BothOff : Opened → Type 0
  BothOff closes = Unit {0}
  BothOff (finds r) = Unit {0}
  BothOff (splits out into) = Off m c out.marks × Off m c into.marks

  branch_off : (d : List ℤ) (y : Marks) → Off m c y → BothOff (branch d y)
  unfolding branch
  branch_off d y h = by_cases (ltb (first_free y) (length y)) some (λ e. rw e tt)
    where
      some : ltb (first_free y) (length y) ≡ true → BothOff (branch d y)
      some e =
          let k : first_free y < length y = ltb-true (first_free y) (length y) e in
          rw e (set_off m c y (first_free y) _ k (first_free_lem y k) h, set_off m c y (first_free y) _ k (first_free_lem y k) h)

  abbrev PassOff : Pass → Type 0
  PassOff shut = Unit {0}
  PassOff (found t) = Unit {0}
  PassOff (unclosed t y) = Off m c y

  concluded_off : (n : ℕ) (p : Pass) → PassOff p → (otherwise : Edges → Marks → Opened) → ((t : Edges) (y : Marks) → Off m c y → BothOff (otherwise t y))
      → BothOff (concluded n p otherwise)
  concluded_off n shut h otherwise later = tt
  concluded_off n (found t) h otherwise later = tt
  concluded_off n (unclosed t y) h otherwise later = later t y h

module _ (g : Network) (vg : Valid g) (c : Edges) (lifting : Bool) (upper : ℤ) where
  pass_off : (d : ℕ → ℤ) (x : Marks) → Off g.m c x → PassOff g.m c (pass lifting (with_marks g x) d upper)
  unfolding pass pass_by
  pass_off d x h = go (least_tree (with_marks g x) d)
    where
      cases : (t : Edges) (u v : Bool) → PassOff g.m c (cond u shut (cond v (found t) (unclosed t (applied lifting (with_marks g x) d upper))))
      cases t true v = tt
      cases t false true = tt
      cases t false false = λ k b e. ruled-off g vg x lifting d upper k b (h k b e)

      go : (r : Tree) → PassOff g.m c (pass_by lifting (with_marks g x) d upper r)
      go no_tree = tt
      go (a_tree b t) = cases t (lt_z upper b) (is_tour (with_marks g x) t)

  passes_off : (step left : ℕ) (d : List ℤ) (x : Marks) → Off g.m c x → BothOff g.m c (passes lifting g step upper left d x)
  unfolding passes
  passes_off step zero d x h =
      concluded_off g.m c g.m (pass lifting (with_marks g x) (multiplier d) upper) (pass_off (multiplier d) x h) (λ t y. branch d y)
      (λ t y q. branch_off g.m c d y q)
  passes_off step (suc left) d x h =
      concluded_off g.m c g.m (pass lifting (with_marks g x) (multiplier d) upper) (pass_off (multiplier d) x h)
      (λ t y. passes lifting g step upper left (gained g step t d) y)
      (λ t y q. passes_off step left (gained g step t d) y q)

-- SO EACH HALF OF A NODE excludes what the node excludes
pub opened_off : (g : Network) → Valid g → (s : Settings) (upper : ℤ) (x : Node) (c : Edges) → Off g.m c x.marks → BothOff g.m c (opened_on g s upper x)
unfolding opened_on
opened_off g v s upper x c h =
    let q = s.denominator in
    passes_off (scaled_by q g) (valid_scaled q g v) c (lifts s) _ s.step s.sweeps x.multipliers x.marks h
