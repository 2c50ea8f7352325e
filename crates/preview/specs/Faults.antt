-- The fault of a preview is first that of a tree call; and the reply and the lent list by it. Assumes nothing.
use Rattle.std.specs.Prelude.{◌≡◌, ◌≢◌, List, ℕ, ◌≤◌, length, ℤ}
use Rattle.std.proofs.Common.{◌∙◌, sym, arith}
use Rattle.graph.specs.declared.Graph.{Graph}
use Rattle.tree_theory.specs.Accepted.{else_first, else_next}
use Rattle.onetree.specs.Answers.{refused}
use Rattle.onetree.specs.TreeCall.{fault-replies, fault-leaves}
use Rattle.reduction.specs.Answers.{tree_fault_over, tree_reply_over, tree_leaves_over}
use Rattle.preview.specs.Preview.{edge_fault, remarked, preview_fault, preview_reply, preview_leaves}

module _ (g : Graph) (d : List ℤ) (l : List ℕ) (q k mark len : ℕ) where
  pub of_tree : (n : ℕ) → n ≡ tree_fault_over g d l q len → 1 ≤ n → n ≡ preview_fault g d l q k mark len
  unfolding preview_fault
  of_tree n h p = h ∙ sym (else_first _ _ (λ i. omega (arith, h, i)))

  pub of_edge : (n : ℕ) → 0 ≡ tree_fault_over g d l q len → n ≡ edge_fault g k mark → n ≡ preview_fault g d l q k mark len
  unfolding preview_fault
  of_edge n e h = h ∙ sym (else_next _ _ (sym e))

-- ---- the reply and the lent list, by the fault

module _ (g : Graph) (d : List ℤ) (l : List ℕ) (q k mark : ℕ) where
  pub preview_refused : (len f : ℕ) → f ≡ preview_fault g d l q k mark len → f ≢ 0 → refused f 0 ≡ preview_reply g d l q k mark len
  unfolding preview_reply
  preview_refused len f e h = rw (← e) (sym (fault-replies f _ h))

  pub refused-leaves : (out : List ℕ) (f : ℕ) → f ≡ preview_fault g d l q k mark (length out) → f ≢ 0 → out ≡ preview_leaves g d l q k mark out
  unfolding preview_leaves
  refused-leaves out f e h = rw (← e) (sym (fault-leaves f out _ h))

  pub preview_tree : (len : ℕ) → preview_fault g d l q k mark len ≡ 0 → preview_reply g d l q k mark len ≡ tree_reply_over (remarked g k mark) d l q len
  unfolding preview_reply
  preview_tree len e = rw e

  pub tree-leaves : (out : List ℕ) → preview_fault g d l q k mark (length out) ≡ 0
      → preview_leaves g d l q k mark out ≡ tree_leaves_over (remarked g k mark) d l q out
  unfolding preview_leaves
  tree-leaves out e = rw e
