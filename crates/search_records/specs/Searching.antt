-- DOCUMENT 01'S MACHINE as a machine of crate lent_records, which states have a search open, and a search's history as what is noted beside its
-- states. Definitions only.
use Rattle.std.specs.Prelude.{refl, Bool, true, false, cond}
use Rattle.machine.specs.Machine.{State, no_search, searching}
use Rattle.machine.specs.Calls.{Call, Answer, step, lent_by, refused, accepted, is_accepted, History}
use Rattle.machine.specs.Calls as calls
use Rattle.lent_records.specs.Machine.{Machine, Searches}

abbrev pub search_machine : Machine
search_machine = record {
  State = State;
  Call = Call;
  Answer = Answer;
  begin = no_search;
  next = λ s c. (step s c).state;
  answer = λ s c. (step s c).answer;
  lent = λ s c. (step s c).lent;
  given = λ c. lent_by c;
  refused = λ n. refused n 0;
  is_accepted = λ a. is_accepted a;
  refusal = λ n. refl;
}

abbrev pub is_open : State → Bool
is_open no_search = false
is_open (searching s) = true

abbrev pub searches : Searches search_machine
searches = record { is_open = is_open; closed = refl; accepted = accepted; acceptance = refl }

-- what a call makes of the history of the search that a list leaves: nothing, where it is refused
abbrev pub note : State → Call → History → History
note s c h = cond (is_accepted (step s c).answer) (calls.noted c h) h
