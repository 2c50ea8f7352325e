-- Each test is the one that the definition makes, in its order.
use Rattle.std.proofs.Common.{◌≡◌, Bool, true, false, not, cond, ℕ, ◌≤◌, sym, ◌∙◌, arith}
use Rattle.std.proofs.lemmas.Result.{err_from_is_err_and}
use Rattle.graph.specs.declared.Graph.{Graph}
use Rattle.graph.specs.Valid.{valid, graph_fault}
use Rattle.graph.specs.Refusals.{positive}
use Rattle.graph.specs.Meaning.{graph_refused}
use Rattle.tree_theory.specs.Accepted.{passed}
use Rattle.reduction.specs.Answers.{input_fault_over}
use Rattle.reduction.proofs.refusals.input_fault.Goals as goal

-- where the graph has no fault, it is valid
fine : (g : Graph) → 0 ≡ graph_fault g → valid g ≡ true
fine g e = (passed (valid g) 15 0 (omega arith) (sym e)).0

-- a refusal unless b is the first of what is left
first : (b : Bool) (n left : ℕ) → n ≡ cond b 0 11 → 1 ≤ n → n ≡ cond (not b) 11 left
first true n left h p = absurd (omega arith)
first false n left h p = h

pub returns-in_err-fault : goal.returns-in_err-fault
unfolding input_fault_over
returns-in_err-fault c =
    let p = err_from_is_err_and c.from_residual.result c.from_residual.ensures.1 in
    let r = graph_refused c.args.g.now c.in_err-fault.field-0.0 c.in_err-fault.ensures in
    rw (p.1, p.2, r.0) r.1

pub returns-in_err-unless : goal.returns-in_err-unless
unfolding input_fault_over
returns-in_err-unless c =
    let p = err_from_is_err_and c.from_residual-in_err-unless.result c.from_residual-in_err-unless.ensures.1 in
    rw (p.1, p.2, fine c.args.g.now c.in_ok-fault.ensures)
    (first _ _ _ (rw c.lengths_fit.ensures at c.in_err-unless.ensures.fault) (positive c.in_err-unless.field-0.0))

pub returns : goal.returns
unfolding input_fault_over
returns c =
    rw (fine c.args.g.now c.in_ok-fault.ensures, sym c.lengths_fit.ensures ∙ c.in_ok-unless.ensures.fits) c.multipliers_fault.ensures
