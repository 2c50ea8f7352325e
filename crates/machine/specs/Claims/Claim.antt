-- Demand 3's claims about the machine itself, in words: what it says after a list of calls. (They are proved in proofs/Claim.)
use mathlib.Core.List.{List}
use Rattle.machine.specs.Machine.{Opening}
use Rattle.machine.specs.Calls.{Call, Verdict}
use Rattle.machine.specs.Calls.{step, leaves}
use Rattle.machine.specs.Demand3 as stated

-- what the machine says after a list of calls: its answers are said as they are
abbrev pub Says : List Call → Opening → Verdict → Type 0
Says cs o v = stated.Says (λ a. a) (λ c. (step (leaves cs) c).answer) (λ c. (step (leaves cs) c).lent) o v

abbrev pub ShowAlike : List Call → List Call → Type 0
ShowAlike cs ds =
    stated.ShowAlike (λ c. (step (leaves cs) c).answer) (λ c. (step (leaves cs) c).lent) (λ c. (step (leaves ds) c).answer)
    (λ c. (step (leaves ds) c).lent)
