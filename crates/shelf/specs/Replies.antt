-- WHAT THE CONTRACTS OF THIS CRATE CITE: crate shelf_theory's seven calls on two lent records (`shelf_calls`) at document 01's machine and the
-- search's record. Definitions only.
use Rattle.std.specs.Prelude.{◌≡◌, true, false, ℕ, replicate, Result, Ok, Err}
use Rattle.graph.specs.declared.refusals.Refusal.{Refusal}
use Rattle.graph.specs.declared.refusals.Refusal.TheVariants.{Record}
use Rattle.machine.specs.Calls.{Answer}
use Rattle.search.specs.Record.{fresh, decode}
use Rattle.search.specs.Seen.{state_of}
use Rattle.search.specs.Replies.{Outcome}
use Rattle.search.specs.declared.Search.{Search}
use Rattle.search.specs.declared.State.{State}
use Rattle.lent_records.specs.Records.{Interface}
use Rattle.search_records.specs.Searching.{search_machine, searches}
use Rattle.search_records.specs.Calls.{search_calls}
use Rattle.shelf_theory.specs.Shelves.{Shelved, save, back}
use Rattle.shelf_theory.specs.ShelfRecords.{sound_both, save_fault_on, back_fault_on, next_on, answer_on}
use Rattle.shelf.specs.declared.Shelf.{Shelf}

-- "from fresh records": nothing is saved
unfoldable pub fresh_shelf : Shelf
fresh_shelf = record { places = replicate 8 fresh }

-- the two lent records
abbrev pub both : Search → Shelf → Shelved Search
both s h = record { current = s; saved = h.places }

-- the calls of crate search, each answer as the machine gives it
abbrev pub plain_calls : Interface search_machine
plain_calls = search_calls {A = Answer} (λ a. a)

-- what a save leaves of the shelf, and its answer
pub record Saved : Type 0 where
  pub shelf : Shelf
  pub answer : Answer

-- a save: the shelf that it leaves, and its answer
unfoldable pub save_reply : Search → Shelf → ℕ → Saved
unfolding next_on answer_on
save_reply s h k = record {
  shelf = record { places = (next_on searches plain_calls (both s h) (save k)).saved };
  answer = answer_on searches plain_calls (both s h) (save k);
}

-- a back: the search record that it leaves, and its answer
unfoldable pub back_reply : Search → Shelf → ℕ → Outcome
unfolding next_on answer_on
back_reply s h k = record {
  search = (next_on searches plain_calls (both s h) (back k)).current;
  answer = answer_on searches plain_calls (both s h) (back k);
}

-- ---- what the parts of the code give

-- 24, or what the search's record holds
abbrev pub Tested : Search → Shelf → Result State Refusal → Type 0
Tested s h (Ok x) = (sound_both plain_calls (both s h) ≡ true) × (x ≡ state_of (decode s))
Tested s h (Err r) = (sound_both plain_calls (both s h) ≡ false) × (r ≡ Record)

unfoldable pub save_number : Search → Shelf → ℕ → ℕ
unfolding save_fault_on
save_number s h k = save_fault_on searches plain_calls (both s h) k

unfoldable pub back_number : Search → Shelf → ℕ → ℕ
unfolding back_fault_on
back_number s h k = back_fault_on searches plain_calls (both s h) k
