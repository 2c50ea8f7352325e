-- The stack stays shallow: how many required edges a node and its halves have. (That every opening keeps to this is proved in proofs/Depth.)
use Prim.Native.Nat.{ℕ, ◌≤◌, ◌<◌}
use Rattle.machine.specs.Outcomes.{closes, finds, splits}
use Rattle.machine.specs.Machine.{Marks, Opened}
use Rattle.machine.specs.Requireds.{requireds}

-- what a split of the node x comes to; n is the number of vertices
pub record Halves (n : ℕ) (x out into : Marks) : Type 0 where
  pub most : requireds x ≤ n
  pub of_out : requireds x ≤ requireds out
  pub of_into : requireds x < requireds into

abbrev pub Shallow : ℕ → Marks → Opened → Type 0
Shallow n x closes = Unit {0}
Shallow n x (finds r) = Unit {0}
Shallow n x (splits out into) = Halves n x out.marks into.marks
