-- DEMAND 3 of the calls of this crate: machine's `Demand3` of `calls`, whose fields are what the contracts of open, run, tell, show and close
-- cite, each answer as the machine's that it means (`means` of Replies, which tells answers apart: Theorem). Crate ffi says each in numbers:
-- `calls_said` of its `said_of`. The statement is read there; Theorem proves it. Definitions only.
use Rattle.machine.specs.Calls as machine
use Rattle.machine.specs.Demand3.{Interface}
use Rattle.search.specs.Record.{fresh, decode, encode}
use Rattle.search.specs.Check.{check}
use Rattle.search.specs.Replies.{reply, lent}
use Rattle.search.specs.declared.Search.{Search}

-- the calls, each answer said by f
abbrev pub calls_said : {A : Type 0} → (machine.Answer → A) → Interface
calls_said {A} f = record {
  Lent = Search;
  Reply = A;
  fresh = fresh;
  next = λ s c. (reply s c).search;
  answer = λ s c. f (reply s c).answer;
  list = lent;
  said = f;
  holds = decode;
  made = encode;
  sound = check;
}

abbrev pub calls : Interface
calls = calls_said {A = machine.Answer} (λ a. a)
