-- Laws that no proof cites today. Assumes nothing.
use Rattle.std.specs.Prelude.{◌≡◌, not, cond, List, ℕ, ◌≤◌, ℤ}
use Rattle.std.proofs.Common.{ap, sym, ◌∙◌}
use Rattle.graph.specs.declared.Graph.{Graph}
use Rattle.tree_theory.specs.Inputs.{ceiling_fits, denominator_fault, or_else, input_fault}
use Rattle.tree_theory.specs.Accepted.{else_test}
use Rattle.greedy.proofs.Faults.{fault_first, fault_next}
use Rattle.onetree.specs.Answers.{tree_fault, rule_fault}

-- the fault of the ceiling comes before that of the denominator
pub first_fault : (g : Graph) (d : List ℤ) (ceiling : ℤ) (den lent later : ℕ) → later ≡ cond (not (ceiling_fits ceiling)) 13 0
    → input_fault g d lent (or_else later (denominator_fault den)) ≡ rule_fault g d ceiling den lent
unfolding rule_fault
first_fault g d ceiling den lent later e =
    rw e (ap (input_fault g d lent) (else_test (ceiling_fits ceiling) 12 (denominator_fault den)))

-- a fault of the graph or its multipliers is the first; without one the tree call's is the denominator's
pub tree_first : (g : Graph) (d : List ℤ) (den len n : ℕ) → n ≡ input_fault g d len 0 → 1 ≤ n → n ≡ tree_fault g d den len
unfolding tree_fault
tree_first g d den len n h p = fault_first g d len _ n h p

pub tree_next : (g : Graph) (d : List ℤ) (den len n : ℕ) → n ≡ denominator_fault den → 0 ≡ input_fault g d len 0 → n ≡ tree_fault g d den len
unfolding tree_fault
tree_next g d den len n h e = h ∙ sym (fault_next g d len _ (sym e))
