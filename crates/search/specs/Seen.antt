-- What a record is seen to hold, by its check and the machine's state that it stands for. Definitions only.
use Rattle.std.specs.Prelude.{◌≡◌, true, cond}
use Rattle.machine.specs.Machine as machine
use Rattle.machine.specs.Machine.{no_search, searching, finished}
use Rattle.search.specs.Record.{decode, encode}
use Rattle.search.specs.Check.{check}
use Rattle.search.specs.declared.Search.{Search}
use Rattle.search.specs.declared.State.{State}
use Rattle.search.specs.declared.State.TheVariants.{Broken, Empty, Waiting, Finished}

-- "Finished means an empty pile."
abbrev pub state_of : machine.State → State
state_of no_search = Empty
state_of (searching p) = cond (finished p) Finished Waiting

unfoldable pub state_in : Search → State
state_in s = cond (check s) (state_of (decode s)) Broken

-- a record that passes its check is that of its state
abbrev pub Again : Search → Type 0
Again s = check s ≡ true → encode (decode s) ≡ s
