-- Each test is the one that the definition makes, in its order.
use Rattle.std.proofs.Common.{◌≡◌, Bool, true, false, not, cond, ℕ, ◌≤◌, sym, ◌∙◌, arith, eqb, ◌&&◌, length, eq-eqb, ne_eqb}
use Rattle.std.proofs.lemmas.Result.{err_from_is_err_and}
use Rattle.graph.specs.declared.Graph.{Graph}
use Rattle.graph.specs.Valid.{valid, graph_fault}
use Rattle.graph.specs.Refusals.{positive}
use Rattle.graph.specs.Meaning.{graph_refused}
use Rattle.tree_theory.specs.Accepted.{passed}
use Rattle.tree_theory.specs.Inputs.{input_fault}
use Rattle.greedy.proofs.refusals.input_fault.Goals as goal
use Rattle.greedy.proofs.refusals.input_fault.Goals.{After-unless, then-multipliers-from, else-multipliers-from}

-- where the graph has no fault, it is valid
fine : (g : Graph) → 0 ≡ graph_fault g → valid g ≡ true
fine g e = (passed (valid g) 15 0 (omega arith) (sym e)).0

-- the lengths are compared as the definition does
compared : (c : After-unless) → c.if-multipliers-from.unless ≡ (eqb (length c.args.multipliers.now) c.args.g.now.n && eqb c.args.lent c.args.g.now.m)
compared c =
    let n = c.from.ensures in
    elim c.if-multipliers-from.branch [
      | then-multipliers-from w ↦ rw (eq-eqb _ _ (w.if-multipliers-from.true ∙ n)) (rw w.from-then-multipliers-from.ensures at w.unless-is)
      | else-multipliers-from w ↦ rw (ne_eqb _ _ (λ e. w.if-multipliers-from.false (e ∙ sym n))) (rw n at w.unless-is ∙ ne_eqb _ _ (λ e. w.if-multipliers-from.false (e ∙ sym n)))
    ]

-- a refusal unless b is the first of what is left
first : (b : Bool) (n left : ℕ) → n ≡ cond b 0 11 → 1 ≤ n → n ≡ cond (not b) 11 left
first true n left h p = absurd (omega arith)
first false n left h p = h

pub returns-in_err-fault : goal.returns-in_err-fault
unfolding input_fault
returns-in_err-fault c =
    let p = err_from_is_err_and c.from_residual.result c.from_residual.ensures.1 in
    let r = graph_refused c.args.g.now c.in_err-fault.field-0.0 c.in_err-fault.ensures in
    rw (p.1, p.2, r.0) r.1

pub returns-in_err-unless : goal.returns-in_err-unless
unfolding input_fault
returns-in_err-unless c =
    let p = err_from_is_err_and c.from_residual-in_err-unless.result c.from_residual-in_err-unless.ensures.1 in
    let all = compared (goal.at.returns-in_err-unless c).After-unless in
    rw (p.1, p.2, fine c.args.g.now c.in_ok-fault.ensures)
    (first _ _ _ (rw all at c.in_err-unless.ensures.fault) (positive c.in_err-unless.field-0.0))

pub returns : goal.returns
unfolding input_fault
returns c =
    let all = compared (goal.at.returns c).After-unless in
    rw (fine c.args.g.now c.in_ok-fault.ensures, sym all ∙ c.in_ok-unless.ensures.fits) c.multipliers_fault.ensures
