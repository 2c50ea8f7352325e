-- A reply in the parts in which a call gives it: the answer, and the dispatcher that is left. Assumes nothing.
use Rattle.std.proofs.Common.{◌≡◌, ap, ◌∙◌}
use Rattle.machine.specs.Calls.{Answer}
use Rattle.dispatch_theory.specs.Dispatcher.{Response}
use Rattle.dispatcher.specs.Replies.{Outcome}
use Rattle.dispatcher.specs.declared.Dispatcher.{Dispatcher}

pub parts : (d : Dispatcher) (a : Response Answer) (o p : Outcome) → a ≡ o.answer → d ≡ o.dispatcher → o ≡ p
    → record { answer : a ≡ p.answer; left : d ≡ p.dispatcher }
parts d a o p x y e = record { answer = x ∙ ap (λ (z : Outcome). z.answer) e; left = y ∙ ap (λ (z : Outcome). z.dispatcher) e }
