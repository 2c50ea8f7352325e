-- The five calls on a search's record as an interface of crate lent_records: every field is what the contracts of crate search cite, each answer,
-- the machine's that the code's means, said by f. Definitions only.
use Rattle.machine.specs.Calls.{Answer}
use Rattle.search.specs.Record.{fresh, decode, encode}
use Rattle.search.specs.Check.{check}
use Rattle.search.specs.Replies.{reply, lent}
use Rattle.search.specs.declared.Search.{Search}
use Rattle.lent_records.specs.Records.{Interface}
use Rattle.search_records.specs.Searching.{search_machine}

abbrev pub search_calls : {A : Type 0} → (Answer → A) → Interface search_machine
search_calls {A} f = record {
  Lent = Search;
  Reply = A;
  fresh = fresh;
  next = λ s c. (reply s c).search;
  answer = λ s c. f (reply s c).answer;
  list = lent;
  said = f;
  holds = decode;
  made = encode;
  sound = check;
}
