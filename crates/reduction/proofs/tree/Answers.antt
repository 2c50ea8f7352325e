-- Where the list has none ashore, the former call; otherwise a refusal, or the call on the small graph.
use Rattle.std.proofs.Common.{◌≡◌, ◌∙◌, ℕ, List, ℤ, length, replicate, sym, ap, subst}
use Rattle.std.proofs.lemmas.Result.{err_from_is_err_and}
use Rattle.graph.specs.declared.Graph.{Graph}
use Rattle.graph.specs.Refusals.{not-zero}
use Rattle.onetree.specs.Answers.{Reply, tree_reply, tree_leaves, tree_says, tree_writes, unless_fault, leaves}
use Rattle.reduction.specs.Answers.{tree_of, tree_fault_over, tree_reply_over, tree_leaves_over}
use Rattle.reduction.specs.Accepting.{TreeCallOver, tree_accepted, tree_refused}
use Rattle.reduction.specs.Listed.{none_listed}
use Rattle.reduction.specs.NoneListed.{none_is, tree_fault_none, tree_of_none}
use Rattle.afloat.specs.Inputs.{fault_fits}
use Rattle.reduction.proofs.tree.Goals as goal

-- the former call, where none is ashore
former : (g : Graph) (d : List ℤ) (l : List ℕ) (q : ℕ) (out : List ℕ) → replicate g.n 0 ≡ l
    → TreeCallOver g d l q out (tree_reply g d q (length out)) (tree_leaves g d q out)
former g d l q out e = subst (λ (l : List ℕ). TreeCallOver g d l q out (tree_reply g d q (length out)) (tree_leaves g d q out)) e none
  where
    none : TreeCallOver g d (replicate g.n 0) q out (tree_reply g d q (length out)) (tree_leaves g d q out)
    none = record {
      reply = unfold tree_reply tree_reply_over in sym (λ i. unless_fault (tree_fault_none g d q (length out) i) (tree_says (tree_of_none g d q i)));
      left = unfold tree_leaves tree_leaves_over in sym
          (λ i. leaves (tree_fault_none g d q (length out) i) out (tree_writes g.m out (tree_of_none g d q i)));
    }

-- without a fault
accepted : (g : Graph) (d : List ℤ) (l : List ℕ) (q : ℕ) (out after : List ℕ) (r : Reply) → tree_fault_over g d l q (length out) ≡ 0
    → r ≡ tree_says (tree_of g d l q) → after ≡ tree_writes g.m out (tree_of g d l q) → TreeCallOver g d l q out r after
unfolding tree_reply_over tree_leaves_over
accepted g d l q out after r e h w = record { reply = rw e h; left = rw e w }

pub returns-then-none_listed : goal.returns-then-none_listed
returns-then-none_listed c =
    let a = c.args in
    let r = former a.g.now a.multipliers.now a.ashore.now a.denominator a.out.now
    (none_is a.ashore.now a.g.now.n (sym (c.none_listed.ensures ∙ ap (none_listed a.ashore.now) c.from.ensures) ∙ c.if-none_listed.true)) in
    record { reply = c.tree.ensures.reply ∙ r.reply; left = c.tree.ensures.left ∙ r.left }

pub returns-in_err-tree_fault : goal.returns-in_err-tree_fault
returns-in_err-tree_fault c =
    let a = c.args in
    let e = c.in_err-tree_fault.field-0.0 in
    let p = err_from_is_err_and c.from_residual.result c.from_residual.ensures.1 in
    let r = tree_refused a.g.now a.multipliers.now a.ashore.now a.denominator a.out.now _ (not-zero e) c.in_err-tree_fault.ensures in
    rw (p.1, p.2) (record { reply = r.reply; left = r.left })

pub invariant_of-tree_over : goal.invariant_of-tree_over
invariant_of-tree_over c =
    let a = c.args in
    let known = tree_accepted a.g.now a.multipliers.now a.ashore.now (length a.out.now) a.denominator (sym c.in_ok-tree_fault.ensures) in
    record { valid = known.0.valid; fits = fault_fits a.ashore.now a.g.now.n known.2; long = known.0.listed }

pub tree_over-requires : goal.tree_over-requires
tree_over-requires c =
    let a = c.args in
    let known = tree_accepted a.g.now a.multipliers.now a.ashore.now (length a.out.now) a.denominator (sym c.in_ok-tree_fault.ensures) in
    record { fits = known.0.multipliers; denominator = known.1; lent = known.0.lent }

pub returns : goal.returns
returns c =
    let a = c.args in
    let r = accepted a.g.now a.multipliers.now a.ashore.now a.denominator a.out.now _ _ (sym c.in_ok-tree_fault.ensures)
    c.tree_over.ensures.reply c.tree_over.ensures.left in
    record { reply = r.reply; left = r.left }
