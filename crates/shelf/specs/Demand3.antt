-- DEMAND 3, over whole lists of opening, run, tell, show, close, save and back calls from fresh records, refused calls included: the statement,
-- once, for every way in which an answer of the machine can be said (`f`). Nothing is proved here. Two ways are: this crate's `demand_3` has what
-- the answers mean (`means` of crate search and the like), crate ffi's `demand_3_exported` the numbers. What it speaks of is defined in tours'
-- Tours (a tour), afloat's Over (one over the vertices afloat), machine's Machine, Calls and Demand3 (the machine, its calls, what a finished search
-- says), shelf_theory's Shelves (saved states) and ShelfRecords (the calls on two records). What of it can be said without the machine is Verdicts.
use Rattle.std.specs.Prelude.{◌≡◌, true, false, List, ℕ, suc, ◌-◌, ◌^◌, ◌≤◌}
use Rattle.graph.specs.Network.{network}
use Rattle.tours.specs.OneNetwork.{OneNetwork}
use Rattle.machine.specs.Machine.{Opening, lifts, State}
use Rattle.machine.specs.Calls as machine
use Rattle.machine.specs.Calls.{Call, tell, tells, Verdict, History, no_opening, since, free_at_start}
use Rattle.machine.specs.Demand3.{NumberedAlike, Finished, Says, ShowAlike}
use Rattle.lent_records.specs.Machine.{Machine, leaves}
use Rattle.lent_records.specs.Records.{Interface, record_of, AsTheMachine}
use Rattle.search_records.specs.Searching.{search_machine, searches, note}
use Rattle.search_records.specs.Calls.{search_calls}
use Rattle.shelf_theory.specs.Shelves.{ShelfCall, plain, back, shelved, besides}
use Rattle.shelf_theory.specs.ShelfRecords.{shelf_calls, Accepts, Restored}

-- "opening, run, tell, show, close, save and back calls"
abbrev pub AnyCall : Type 0
AnyCall = ShelfCall Call

-- "its machine keeps the saved states": document 01's, with eight saved states
abbrev pub search_shelved : Machine
search_shelved = shelved search_machine searches

-- the search that a list leaves
abbrev pub search_left : List AnyCall → State
search_left cs = (leaves search_shelved cs).current

-- "The hunt that a list leaves is that of its last accepted opening, if no accepted close follows; its run calls are the accepted ones since."
-- And "after an accepted back the hunt that a list leaves is the restored one, with the opening it had, until an accepted opening, back or
-- close. The allowance that finishes a hunt counts the run calls in its restored history and those since."
unfoldable pub history : List AnyCall → History
unfolding besides
history cs = (besides search_machine searches note no_opening cs).current

-- the list leaves a finished search, which was opened with o
pub record LeavesFinished (cs : List AnyCall) (o : Opening) : Type 0 where
  pub total : ℕ
  pub opened : history cs ≡ since o total
  pub done : Finished (search_left cs)

-- ---- the seven calls, each answer said by f

abbrev pub calls_said : {A : Type 0} → (machine.Answer → A) → Interface search_shelved
calls_said f = shelf_calls searches (search_calls f)

-- "What it tells or shows is what tell, or show with a list of m bytes, gives next": after a list that leaves a finished search, opened with o
abbrev pub SaysAfter : {A : Type 0} → (machine.Answer → A) → List AnyCall → Opening → Verdict → Type 0
SaysAfter f cs o v =
    let r = record_of (calls_said f) cs in
    Says f (λ c. (calls_said f).answer r (plain c)) (λ c. (calls_said f).list r (plain c)) o v

-- of two lists: show with one list of bytes is answered alike, and leaves it with the same bytes
abbrev pub ShowAlikeAfter : {A : Type 0} → (machine.Answer → A) → List AnyCall → List AnyCall → Type 0
ShowAlikeAfter f cs ds =
    let r = record_of (calls_said f) cs in
    let q = record_of (calls_said f) ds in
    ShowAlike (λ c. (calls_said f).answer r (plain c)) (λ c. (calls_said f).list r (plain c)) (λ c. (calls_said f).answer q (plain c))
    (λ c. (calls_said f).list q (plain c))

pub record Demand3 {A : Type 0} (f : machine.Answer → A) : Type 0 where
  -- "For every list of opening, run, tell, show and close calls on one record, refused ones included, from a fresh record .. each call answers
  -- as document 01's machine does", and "Demand 3 covers these lists too": both records to the byte, and 24 never
  pub equal : (cs : List AnyCall) → AsTheMachine (calls_said f) cs
  -- "Take two such lists that each leave a finished hunt, both of one sea (its legs in any order) and opened with one ceiling, whatever
  -- dues, sweeps and steps the two have. Tell gives both the same verdict: .."; so whatever denominators (document 02, C-17), and with lifting or
  -- without (C-13). C-23: "With legs numbered alike, finished hunts now agree on the round as well as its cost." C-20: "two hunts agree when their
  -- lists are the same"
  pub agree : (cs ds : List AnyCall) (o p : Opening) → LeavesFinished cs o → LeavesFinished ds p
      → OneNetwork (network o.graph) (network p.graph) → o.ashore ≡ p.ashore → o.settings.ceiling ≡ p.settings.ceiling
      → (v : Verdict) × SaysAfter f cs o v × SaysAfter f ds p v
      × (NumberedAlike (network o.graph) (network p.graph) → ShowAlikeAfter f cs ds)
  -- "A hunt whose accepted run calls allow at least 2^(k+1) − 1 nodes in all, k legs being free at the start and k at most 62, is
  -- finished."
  pub ends : (cs : List AnyCall) (o : Opening) (total : ℕ) → history cs ≡ since o total
      → free_at_start o ≤ 62 → 2 ^ suc (free_at_start o) - 1 ≤ total
      → Finished ((calls_said f).holds (record_of (calls_said f) cs)).current
  -- "the hunt after an accepted back equals the hunt at the latest accepted save under that name"
  pub restores : (cs : List AnyCall) (k : ℕ) → Accepts searches (search_calls f) cs (back k) → Restored searches (search_calls f) cs k

-- ---- of `agree`, what document 02 says of lifting

-- tell gives this verdict next, with the best cost where there is one, whatever the count
abbrev pub TellsAfter : {A : Type 0} → (machine.Answer → A) → List AnyCall → Verdict → Type 0
TellsAfter f cs v = (count : ℕ) × ((calls_said f).answer (record_of (calls_said f) cs) (plain tell) ≡ f (tells v count))

-- document 02, C-13: "A finished lifted hunt and a finished unlifted one, of one sea and one ceiling, must have the same verdict and cost."
abbrev pub LiftedAgrees : {A : Type 0} → (machine.Answer → A) → Type 0
LiftedAgrees f = (lifted unlifted : List AnyCall) (o p : Opening) → LeavesFinished lifted o → LeavesFinished unlifted p
    → lifts o.settings ≡ true → lifts p.settings ≡ false
    → OneNetwork (network o.graph) (network p.graph) → o.ashore ≡ p.ashore → o.settings.ceiling ≡ p.settings.ceiling
    → (v : Verdict) × TellsAfter f lifted v × TellsAfter f unlifted v
