-- Document 02's C-20, "Tree, rule, preview and opening take a list of n bytes, 1 for ashore, 0 for afloat": what the tree call and the rule call
-- answer with such a list, and what they leave in the lent list, for every input. As onetree's Answers has it, with the least 1-tree and the
-- rulings over the vertices that are afloat (afloat's Over and Values). The contracts cite these. Definitions only.
use Rattle.std.specs.Prelude.{not, cond, ◌&&◌, List, ℕ, eqb, length, ℤ}
use Rattle.integers.specs.Multiples.{◌times◌}
use Rattle.graph.specs.declared.Graph.{Graph}
use Rattle.graph.specs.Network.{network}
use Rattle.graph.specs.Valid.{valid}
use Rattle.tree_theory.specs.Inputs.{multiplier, multipliers_fit, ceiling_fits, denominator_fault, or_else}
use Rattle.tree_theory.specs.Enumeration.{Tree, Ruling}
use Rattle.tree_theory.specs.Scaled.{scaled_by}
use Rattle.afloat.specs.Over.{ashore, ashore_fault}
use Rattle.afloat.specs.Values.{tree_over, ruling_over}
use Rattle.onetree.specs.Answers.{Reply, unless_fault, leaves, tree_says, tree_writes, rule_says, rule_writes}

-- ---- refusals

-- "The list's length comes under 11": refusals 15, 11 and 12, then what is left to test. l is the list, len the lent list's length
unfoldable pub input_fault_over : Graph → List ℤ → List ℕ → ℕ → ℕ → ℕ
unfolding valid multipliers_fit
input_fault_over g d l len left =
    cond (not (valid g)) 15
    (cond (not ((eqb (length d) g.n && eqb (length l) g.n) && eqb len g.m)) 11
    (cond (not (multipliers_fit d)) 12
    left))

-- "35 .. follows 32"
unfoldable pub tree_fault_over : Graph → List ℤ → List ℕ → ℕ → ℕ → ℕ
unfolding input_fault_over denominator_fault ashore_fault
tree_fault_over g d l q len = input_fault_over g d l len (or_else (denominator_fault q) (ashore_fault l g.n))

unfoldable pub rule_fault_over : Graph → List ℤ → List ℕ → ℤ → ℕ → ℕ → ℕ
unfolding input_fault_over ceiling_fits denominator_fault ashore_fault
rule_fault_over g d l ceiling q len =
    input_fault_over g d l len (cond (not (ceiling_fits ceiling)) 13 (or_else (denominator_fault q) (ashore_fault l g.n)))

-- ---- the tree call

-- the least 1-tree over the vertices that are afloat, of a call's input
abbrev pub tree_of : Graph → List ℤ → List ℕ → ℕ → Tree
tree_of g d l q = tree_over (ashore l) (scaled_by q (network g)) (multiplier d)

unfoldable pub tree_reply_over : Graph → List ℤ → List ℕ → ℕ → ℕ → Reply
unfolding tree_fault_over tree_over network ashore multiplier
tree_reply_over g d l q len = unless_fault (tree_fault_over g d l q len) (tree_says (tree_of g d l q))

unfoldable pub tree_leaves_over : Graph → List ℤ → List ℕ → ℕ → List ℕ → List ℕ
unfolding tree_fault_over tree_over network ashore multiplier
tree_leaves_over g d l q out = leaves (tree_fault_over g d l q (length out)) out (tree_writes g.m out (tree_of g d l q))

-- ---- the rule call

-- and the rulings: an edge that touches a vertex ashore has 'already struck', whatever its mark
abbrev pub rulings_of : Graph → List ℤ → List ℕ → ℤ → ℕ → ℕ → Ruling
rulings_of g d l ceiling q = ruling_over (ashore l) (scaled_by q (network g)) (multiplier d) (q times ceiling)

unfoldable pub rule_reply_over : Graph → List ℤ → List ℕ → ℤ → ℕ → ℕ → Reply
unfolding rule_fault_over tree_over network ashore multiplier
rule_reply_over g d l ceiling q len = unless_fault (rule_fault_over g d l ceiling q len) (rule_says (q times ceiling) (tree_of g d l q))

unfoldable pub rule_leaves_over : Graph → List ℤ → List ℕ → ℤ → ℕ → List ℕ → List ℕ
unfolding rule_fault_over tree_over ruling_over network ashore multiplier
rule_leaves_over g d l ceiling q out =
    leaves (rule_fault_over g d l ceiling q (length out)) out
    (rule_writes g.m (q times ceiling) out (rulings_of g d l ceiling q) (tree_of g d l q))
