-- C-18'S MACHINE OVER ANY MACHINE: a state and eight saved states, with the calls save and back beside the machine's own. A saved state in
-- which no search is open is none: save takes open searches only. Definitions only.
--     Shelved S         a state, and what is saved under the names 1 to 8
--     ShelfCall C       a call of the machine's, save or back
--     shelved m o       the machine of all these calls
--     besides ..        what is noted beside the states, saved and brought back with them: a search's history
use Rattle.std.specs.Prelude.{Bool, true, false, not, cond, ℕ, zero, suc, replicate}
use mathlib.Core.List.{List, [], ◌∷◌, map}
use Rattle.lent_records.specs.Machine.{Machine, Searches}
use Rattle.lent_records.specs.Places.{is_name, under, put}

-- "Up to eight states are saved under names 1 to 8, beside the hunt"
pub record Shelved (S : Type 0) : Type 0 where
  pub current : S
  pub saved : List S

-- "opening, run, tell, show, close, save and back calls"
pub data ShelfCall (C : Type 0) : Type 0 where
  plain : C → ShelfCall C
  save : ℕ → ShelfCall C
  back : ℕ → ShelfCall C

module _ {S : Type 0} where
  -- "from fresh records"
  unfoldable pub cleared : S → Shelved S
  cleared z = record { current = z; saved = replicate 8 z }

  -- "Saving replaces an earlier state", if the save is accepted
  abbrev pub saves : Shelved S → ℕ → Bool → Shelved S
  saves d k true = record { current = d.current; saved = put d.saved k d.current }
  saves d k false = d

  -- "any may be brought back", if the call is accepted
  abbrev pub brings : S → Shelved S → ℕ → Bool → Shelved S
  brings z d k true = record { current = under z d.saved k; saved = d.saved }
  brings z d k false = d

-- every one of the states, as f has it
unfoldable pub each : {A B : Type 0} → (A → B) → Shelved A → Shelved B
each f d = record { current = f d.current; saved = map f d.saved }

-- no fault
abbrev pub is_none : ℕ → Bool
is_none zero = true
is_none (suc n) = false

module _ (m : Machine) (o : Searches m) where
  -- "save with no hunt open is still 20, tested before 33"
  unfoldable pub save_fault : Shelved m.State → ℕ → ℕ
  save_fault d k = cond (not (o.is_open d.current)) 20 (cond (not (is_name k)) 33 0)

  -- "33 when a name is not 1 to 8, after 24; 34, after it, when nothing stands under a name to bring back"
  unfoldable pub back_fault : Shelved m.State → ℕ → ℕ
  back_fault d k = cond (not (is_name k)) 33 (cond (not (o.is_open (under m.begin d.saved k))) 34 0)

  unfoldable pub answer_by : ℕ → m.Answer
  answer_by zero = o.accepted
  answer_by (suc n) = m.refused (suc n)

  unfoldable pub shelf_next : Shelved m.State → ShelfCall m.Call → Shelved m.State
  unfolding save_fault back_fault
  shelf_next d (plain c) = record { current = m.next d.current c; saved = d.saved }
  shelf_next d (save k) = saves d k (is_none (save_fault d k))
  shelf_next d (back k) = brings m.begin d k (is_none (back_fault d k))

  unfoldable pub shelf_answer : Shelved m.State → ShelfCall m.Call → m.Answer
  unfolding answer_by save_fault back_fault
  shelf_answer d (plain c) = m.answer d.current c
  shelf_answer d (save k) = answer_by (save_fault d k)
  shelf_answer d (back k) = answer_by (back_fault d k)

  unfoldable pub shelf_lent : Shelved m.State → ShelfCall m.Call → List ℕ
  shelf_lent d (plain c) = m.lent d.current c
  shelf_lent d (save k) = []
  shelf_lent d (back k) = []

  unfoldable pub shelf_given : ShelfCall m.Call → List ℕ
  shelf_given (plain c) = m.given c
  shelf_given (save k) = []
  shelf_given (back k) = []

  -- "its machine keeps the saved states"
  abbrev pub shelved : Machine
  shelved = record {
    State = Shelved m.State;
    Call = ShelfCall m.Call;
    Answer = m.Answer;
    begin = cleared m.begin;
    next = shelf_next;
    answer = shelf_answer;
    lent = shelf_lent;
    given = shelf_given;
    refused = m.refused;
    is_accepted = m.is_accepted;
    refusal = m.refusal;
  }

  -- ---- what is noted beside the states: "after an accepted back the hunt that a list leaves is the restored one, with the opening it had",
  -- and "counts the run calls in its restored history and those since"

  module _ {X : Type 0} (note : m.State → m.Call → X → X) (x₀ : X) where
    unfoldable pub beside_next : Shelved m.State → Shelved X → ShelfCall m.Call → Shelved X
    unfolding save_fault back_fault
    beside_next d x (plain c) = record { current = note d.current c x.current; saved = x.saved }
    beside_next d x (save k) = saves x k (is_none (save_fault d k))
    beside_next d x (back k) = brings x₀ x k (is_none (back_fault d k))

    unfoldable pub beside : Shelved m.State → Shelved X → List (ShelfCall m.Call) → Shelved X
    unfolding shelf_next beside_next
    beside d x [] = x
    beside d x (c ∷ cs) = beside (shelf_next d c) (beside_next d x c) cs

    unfoldable pub besides : List (ShelfCall m.Call) → Shelved X
    unfolding beside cleared
    besides cs = beside (cleared m.begin) (cleared x₀) cs
