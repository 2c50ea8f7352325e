-- The first that is not 35, or 35.
use Rattle.std.specs.Prelude.{◌≡◌, ℕ, zero, suc, Err}
use Rattle.std.proofs.Common.{sym, ap, ◌∙◌, arith, rules}
use Rattle.graph.specs.Refusals.{number, not-zero}
use Rattle.tree_theory.specs.Inputs.{or_else}
use Rattle.afloat.specs.Over.{ashore_fault}
use Rattle.machine.specs.Machine.{Opening}
use Rattle.machine.specs.Calls.{fault}
use Rattle.search.specs.Begun.{asked, given_fault, fault_is}
use Rattle.search.proofs.opening.Opening.fault.Goals as goal

at_first : (e f k : ℕ) → (k ≡ 0 → ⊥) → k ≡ e → k ≡ or_else e f
at_first zero f k n q = absurd (n q)
at_first (suc e) f k n q = q

past_first : (e f k : ℕ) → 0 ≡ e → k ≡ f → k ≡ or_else e f
past_first zero f k q r = r
past_first (suc e) f k q r = absurd (omega arith)

pub returns-in_err-given_fault : goal.returns-in_err-given_fault
returns-in_err-given_fault c =
    let o : Opening = asked c.args.self.now in
    let r = c.in_err-given_fault.field-0.0 in
    let is : c.from_residual.result ≡ Err r = search rules in
    rw is (at_first (given_fault o) (ashore_fault o.ashore o.graph.n) (number r) (not-zero r) c.in_err-given_fault.ensures ∙ sym (fault_is o))

pub returns : goal.returns
returns c =
    let o : Opening = asked c.args.self.now in
    past_first (given_fault o) (ashore_fault o.ashore o.graph.n) _ c.in_ok-given_fault.ensures
    (c.ashore_fault.ensures ∙ ap (ashore_fault o.ashore) c.from.ensures)
    ∙ sym (fault_is o)
