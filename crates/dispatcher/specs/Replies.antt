-- WHAT EVERY CONTRACT OF THIS CRATE CITES: what each call's answer means (`add_means` and the like), the dispatcher and the answer that a call gives (`reply`), and the lent
-- list as it leaves it (`lent`): those of dispatch_theory's dispatcher over document 01's machine, behind 24. Definitions only.
use Rattle.std.specs.Prelude.{refl, List, ℕ, Option, Some, None, Result, Ok, Err}
use Rattle.graph.specs.declared.refusals.Refusal.{Refusal}
use Rattle.graph.specs.Refusals.{number}
use Rattle.machine.specs.Machine.{Opening}
use Rattle.machine.specs.Calls as calls
use Rattle.search.specs.Replies as search
use Rattle.search.specs.declared.Verdict.{Verdict}
use Rattle.lent_records.specs.Machine.{Machine}
use Rattle.lent_records.specs.Records.{Codec, lent_on}
use Rattle.lent_records.specs.Records as records
use Rattle.dispatch_theory.specs.Dispatcher.{DispatchCall, Response, placed, served, idle, said, dispatcher}
use Rattle.dispatch_theory.specs.Records.{Form, dispatch_codec}
use Rattle.dispatcher.specs.Searches.{machine, held, made, codec}
use Rattle.dispatcher.specs.declared.Dispatcher.{Dispatcher}

-- add with the arguments of an opening, turn, and tell, show and close at a place
abbrev pub Call : Type 0
Call = DispatchCall Opening

-- the dispatcher as a machine: a turn's and an add's answers, and at a place the place's own
abbrev pub dispatching : Machine
dispatching = dispatcher machine held made

-- ---- answers

-- the machine's answer for each of the code's; no refusal of these calls has a place
abbrev pub add_means : Result ℕ Refusal → Response calls.Answer
add_means (Err r) = said (calls.refused (number r) 0)
add_means (Ok i) = placed i

-- the place served, or none
abbrev pub turn_means : Result (Option ℕ) Refusal → Response calls.Answer
turn_means (Err r) = said (calls.refused (number r) 0)
turn_means (Ok None) = idle
turn_means (Ok (Some i)) = served i

abbrev pub tell_means : Result Verdict Refusal → Response calls.Answer
tell_means told = said (search.tell_means told)

-- of showing and closing
abbrev pub means : Result (Unit {0}) Refusal → Response calls.Answer
means done = said (search.means done)

-- the record: eight search records, and the place last served
abbrev pub form : Form codec
form = record {
  Record = Dispatcher;
  make = λ l n. record { last = n; places = l };
  places = λ r. r.places;
  last = λ r. r.last;
  places-made = λ l n. refl;
  last_made = λ l n. refl;
  Reply = Response calls.Answer;
  said = λ a. a;
}

abbrev pub dispatchers : Codec dispatching
dispatchers = dispatch_codec held made codec form

-- ---- one call

-- what a call leaves of the dispatcher, and its answer
pub record Outcome : Type 0 where
  pub dispatcher : Dispatcher
  pub answer : Response calls.Answer

-- a refusal: the dispatcher as it was
abbrev pub refuses : Dispatcher → ℕ → Outcome
refuses d n = record { dispatcher = d; answer = said (calls.refused n 0) }

-- 24, tested before all else, on all eight places and the place last served; else the dispatcher's call
unfoldable pub reply : Dispatcher → Call → Outcome
unfolding records.reply
reply d c = let r = records.reply dispatchers d c in record { dispatcher = r.left; answer = r.answer }

-- the lent list as the call leaves it
unfoldable pub lent : Dispatcher → Call → List ℕ
unfolding lent_on
lent d c = lent_on dispatchers d c
