-- Crate search's machine and record as lent_records and dispatch_theory take them: what a place of the dispatcher holds, and the calls that
-- the dispatcher makes there. Definitions only, with the laws that are asked of them.
use Rattle.std.specs.Prelude.{Bool, false}
use Rattle.machine.specs.Machine.{Opening, State, no_search, searching, finished}
use Rattle.machine.specs.Calls as calls
use Rattle.machine.specs.Kept.{KeptState}
use Rattle.machine.proofs.Preserved.{step_kept}
use Rattle.search.specs.Record.{decode, encode}
use Rattle.search.specs.Check.{check}
use Rattle.search.specs.Inverse.{decode-encode}
use Rattle.search.specs.Theorem.{encode-passes}
use Rattle.search.specs.declared.Search.{Search}
use Rattle.lent_records.specs.Machine.{Machine, Searches}
use Rattle.lent_records.specs.Records.{Codec}
use Rattle.search_records.specs.Searching.{search_machine, searches}
use Rattle.dispatch_theory.specs.Dispatcher.{Calls}

-- document 01's machine
abbrev pub machine : Machine
machine = search_machine

-- "A dispatcher holds up to eight hunts": a place holds one where a search is open there
abbrev pub held : Searches machine
held = searches

-- "unfinished": nodes wait
abbrev pub is_finished : State → Bool
is_finished no_search = false
is_finished (searching s) = finished s

abbrev pub made : Calls machine
made = record {
  Opening = Opening;
  opens = calls.opens;
  run = calls.run;
  tell = calls.tell;
  show = calls.show;
  close = calls.close;
  finished = is_finished;
}

-- the search record, as crate search has it
abbrev pub codec : Codec machine
codec = record {
  Record = Search;
  encode = encode;
  decode = decode;
  check = check;
  Reply = calls.Answer;
  said = λ a. a;
  Kept = KeptState;
  begun = tt;
  goes_on = step_kept;
  passes = encode-passes;
  returns = decode-encode;
}
