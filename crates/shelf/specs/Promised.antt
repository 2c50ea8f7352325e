-- THE SEVEN CALLS AS THEIR CONTRACTS NAME THEM: `fresh`, `reply` and `lent` of crate search, `fresh_shelf`, `save_reply` and `back_reply` of this
-- crate. A contract says of each call that it answers, and leaves of what it is lent, what these functions give; so whatever is true of them is true
-- of the calls, and for that they need not be read. Definitions only.
use Rattle.std.specs.Prelude.{List, [], ℕ}
use Rattle.machine.specs.Calls.{Answer}
use Rattle.search.specs.Record.{fresh}
use Rattle.search.specs.Replies.{reply, lent}
use Rattle.search.specs.declared.Search.{Search}
use Rattle.shelf_theory.specs.Shelves.{plain, save, back}
use Rattle.shelf.specs.declared.Shelf.{Shelf}
use Rattle.shelf.specs.Replies.{fresh_shelf, save_reply, back_reply}
use Rattle.shelf.specs.Demand3.{AnyCall}
use Rattle.shelf.specs.Verdicts.{Calling}

pub record Lent : Type 0 where
  pub search : Search
  pub shelf : Shelf

abbrev pub leaves_both : Lent → AnyCall → Lent
leaves_both r (plain c) = record { search = (reply r.search c).search; shelf = r.shelf }
leaves_both r (save k) = record { search = r.search; shelf = (save_reply r.search r.shelf k).shelf }
leaves_both r (back k) = record { search = (back_reply r.search r.shelf k).search; shelf = r.shelf }

abbrev pub answer_of : Lent → AnyCall → Answer
answer_of r (plain c) = (reply r.search c).answer
answer_of r (save k) = (save_reply r.search r.shelf k).answer
answer_of r (back k) = (back_reply r.search r.shelf k).answer

abbrev pub list_of : Lent → AnyCall → List ℕ
list_of r (plain c) = lent r.search c
list_of r (save k) = []
list_of r (back k) = []

-- each answer said by f
abbrev pub calls : {A : Type 0} → (Answer → A) → Calling A
calls {A} f = record {
  Lent = Lent;
  fresh = record { search = fresh; shelf = fresh_shelf };
  next = leaves_both;
  answer = λ r c. f (answer_of r c);
  list = list_of;
}
