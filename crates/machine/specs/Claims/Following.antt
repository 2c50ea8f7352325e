-- What it is that an interface follows the machine: each call, on the record of a state that keeps to Kept, leaves the record of the machine's
-- next state and says what the machine says. (Such an interface meets demand 3: proofs/Following.)
use Rattle.std.specs.Prelude.{◌≡◌, true}
use Rattle.machine.specs.Machine.{State, no_search}
use Rattle.machine.specs.Calls.{Call, step}
use Rattle.machine.specs.Kept.{KeptState}
use Rattle.machine.specs.Demand3.{Interface}

pub record Follows (i : Interface) : Type 0 where
  pub starts : i.fresh ≡ i.made no_search
  -- one call on the record of a state
  pub next : (s : State) → KeptState s → (c : Call) → i.next (i.made s) c ≡ i.made (step s c).state
  pub answer : (s : State) → KeptState s → (c : Call) → i.answer (i.made s) c ≡ i.said (step s c).answer
  pub list : (s : State) → KeptState s → (c : Call) → i.list (i.made s) c ≡ (step s c).lent
  -- that record holds the state, and passes its check
  pub back : (s : State) → KeptState s → i.holds (i.made s) ≡ s
  pub sound : (s : State) → KeptState s → i.sound (i.made s) ≡ true
