-- The sailing, behind the fault.
use Rattle.std.proofs.Common.{◌≡◌, Err, sym, ap, ◌∙◌, rules}
use Rattle.graph.specs.Refusals.{not-zero}
use Rattle.sailing.specs.Refusals.{reply-refused, refused-leaves, reply_sailed, sailed_leaves}
use Rattle.simulation.specs.Answers.{simulation_meaning}
use Rattle.simulation.proofs.simulate.Goals as goal

pub returns-in_err-fault : goal.returns-in_err-fault
unfolding simulation_meaning
returns-in_err-fault c =
    let refusal = c.in_err-fault.field-0.0 in
    let is : c.from_residual.result ≡ Err refusal = search rules in
    let some = not-zero refusal in (
      ap simulation_meaning is ∙ sym (reply-refused _ _ _ _ _ _ (sym c.in_err-fault.ensures) some),
      sym (refused-leaves _ _ _ _ _ _ (sym c.in_err-fault.ensures) some),
    )

pub returns : goal.returns
unfolding simulation_meaning
returns c =
    let none = sym c.in_ok-fault.ensures in
    let said = c.sail.ensures in (
      cc (said.0, said.1, reply_sailed _ _ _ _ _ none),
      said.2 ∙ sym (sailed_leaves _ _ _ _ _ none),
    )
