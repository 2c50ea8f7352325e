-- What the exported calls on a lent record give: `reply` and `lent` of crate search, with the answer in numbers. Definitions only.
use Rattle.std.specs.Prelude.{◌≡◌, List, ℕ}
use Rattle.machine.specs.Calls.{Call}
use Rattle.search.specs.Replies.{reply, lent}
use Rattle.search.specs.declared.Search.{Search}
use Rattle.ffi.specs.declared.Reply.{Reply}
use Rattle.ffi.specs.Answers.{said_of}

-- what a call promises of its answer and of the record that it leaves
abbrev pub Leaves : Search → Call → Reply → Search → Type 0
Leaves s c said after = (said ≡ said_of (reply s c).answer) × (after ≡ (reply s c).search)

-- and of the list lent beside it
abbrev pub LeavesList : Search → Call → Reply → Search → List ℕ → Type 0
LeavesList s c said after l = (said ≡ said_of (reply s c).answer) × ((after ≡ (reply s c).search) × (l ≡ lent s c))
