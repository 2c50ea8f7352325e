-- What is answered, in document 01's numbers, and what a writing's answer says of it. (Chart.antt says it of a reading's.)
use Rattle.std.specs.Prelude.{ℕ, Result, Ok, Err}
use Rattle.graph.specs.declared.refusals.Refusal.{Refusal}
use Rattle.graph.specs.Refusals.{number}

-- "Each answer is the number and a place"; "Accepted means not refused."
pub data Outcome : Type 0 where
  accepted : Outcome
  refused : ℕ → ℕ → Outcome

-- "otherwise 0" is the place
unfoldable pub write_meaning : Result (Unit {0}) Refusal → Outcome
write_meaning (Ok _) = accepted
write_meaning (Err r) = refused (number r) 0
