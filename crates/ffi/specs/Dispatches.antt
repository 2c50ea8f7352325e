-- What the exported calls on a lent dispatcher give: `reply` and `lent` of crate dispatcher, with the answer in numbers; and the way in which
-- they are made, of which C-24's claims are stated. Definitions only.
use Rattle.std.specs.Prelude.{◌≡◌, List, ℕ}
use Rattle.machine.specs.Calls as machine
use Rattle.dispatch_theory.specs.Dispatcher.{Response, placed, served, idle}
use Rattle.dispatch_theory.specs.Dispatcher.{said as of_search}
use Rattle.lent_records.specs.Records.{Interface}
use Rattle.dispatcher.specs.Replies.{Call, dispatching, reply, lent}
use Rattle.dispatcher.specs.Claims.{calls_said}
use Rattle.dispatcher.specs.declared.Dispatcher.{Dispatcher}
use Rattle.ffi.specs.declared.Reply.{Reply}
use Rattle.ffi.specs.Answers.{plain, said_of}

-- 0 and the place that was added or served; 1,005 for a turn that found none to serve; no refusal has it
abbrev pub said_at : Response machine.Answer → Reply
said_at (placed k) = plain 0 k
said_at (served k) = plain 0 k
said_at idle = plain 1005 0
said_at (of_search a) = said_of a

-- what a call promises of its answer and of the dispatcher that it leaves
abbrev pub Leaves : Dispatcher → Call → Reply → Dispatcher → Type 0
Leaves d c said after = (said ≡ said_at (reply d c).answer) × (after ≡ (reply d c).dispatcher)

-- and of the list lent beside it
abbrev pub LeavesList : Dispatcher → Call → Reply → Dispatcher → List ℕ → Type 0
LeavesList d c said after l = (said ≡ said_at (reply d c).answer) × ((after ≡ (reply d c).dispatcher) × (l ≡ lent d c))

-- the exported calls
abbrev pub exported_at : Interface dispatching
exported_at = calls_said said_at
