-- The faults of a call's input one after the other: what is left to test counts where those before it are none.
use Rattle.std.specs.Prelude.{◌≡◌, refl, Bool, true, false, not, cond, ◌&&◌, List, ℕ, ◌≤◌, eqb, length, ℤ}
use Rattle.std.proofs.Common.{sym, arith}
use Rattle.graph.specs.declared.Graph.{Graph}
use Rattle.graph.specs.Valid.{valid}
use Rattle.tree_theory.specs.Inputs.{multipliers_fit, input_fault}

first_of : (v l m : Bool) (left n : ℕ) → n ≡ cond (not v) 15 (cond (not l) 11 (cond (not m) 12 0)) → 1 ≤ n
    → n ≡ cond (not v) 15 (cond (not l) 11 (cond (not m) 12 left))
first_of false l m left n h p = h
first_of true false m left n h p = h
first_of true true false left n h p = h
first_of true true true left n h p = absurd (omega arith)

next_of : (v l m : Bool) (left n : ℕ) → n ≡ cond (not v) 15 (cond (not l) 11 (cond (not m) 12 0)) → n ≡ 0
    → cond (not v) 15 (cond (not l) 11 (cond (not m) 12 left)) ≡ left
next_of false l m left n h z = absurd (omega arith)
next_of true false m left n h z = absurd (omega arith)
next_of true true false left n h z = absurd (omega arith)
next_of true true true left n h z = refl

module _ (g : Graph) (d : List ℤ) (lent left : ℕ) where
  pub fault_first : (n : ℕ) → n ≡ input_fault g d lent 0 → 1 ≤ n → n ≡ input_fault g d lent left
  unfolding input_fault
  fault_first n h p = first_of (valid g) (eqb (length d) g.n && eqb lent g.m) (multipliers_fit d) left n h p

  pub fault_next : input_fault g d lent 0 ≡ 0 → input_fault g d lent left ≡ left
  unfolding input_fault
  fault_next h = next_of (valid g) (eqb (length d) g.n && eqb lent g.m) (multipliers_fit d) left 0 (sym h) refl

  -- parts that are no graph's
  pub fault_graph : valid g ≡ false → input_fault g d lent left ≡ 15
  unfolding input_fault
  fault_graph e = rw e
