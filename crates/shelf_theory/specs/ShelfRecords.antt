-- THE SEVEN CALLS ON TWO LENT RECORDS, the search's and the shelf's, over any way in which the machine's own calls can be made. These are
-- lent the search's record alone; save and back are lent both, and change one. Definitions only.
--     sound_both j r     what 24 tests
--     save_fault_on ..    the refusal's number, or 0
--     shelf_calls o j    all seven calls
--     Restored o j ..   what an accepted back restores, to the byte
use Rattle.std.specs.Prelude.{◌≡◌, Bool, ◌&&◌, List, [], ◌∷◌, ◌++◌, ℕ}
use Rattle.std.proofs.Math.Bool.{cond}
use Rattle.std.specs.List.{list_all}
use Rattle.lent_records.specs.Machine.{Machine, Searches}
use Rattle.lent_records.specs.Records.{Interface, record_of}
use Rattle.shelf_theory.specs.Shelves.{Shelved, ShelfCall, plain, save, back, cleared, saves, brings, each, is_none, save_fault, back_fault}
use Rattle.shelf_theory.specs.Shelves.{answer_by, shelved}

-- "24 covers the lent saved states too"
unfoldable pub sound_both : {m : Machine} (j : Interface m) → Shelved j.Lent → Bool
sound_both j r = j.sound r.current && list_all j.sound r.saved

module _ {m : Machine} (o : Searches m) (j : Interface m) where
  -- 24, "tested before all input"; then the machine's, on the states that the records hold
  unfoldable pub save_fault_on : Shelved j.Lent → ℕ → ℕ
  unfolding sound_both save_fault each
  save_fault_on r k = cond (sound_both j r) (save_fault m o (each j.holds r) k) 24

  unfoldable pub back_fault_on : Shelved j.Lent → ℕ → ℕ
  unfolding sound_both back_fault each
  back_fault_on r k = cond (sound_both j r) (back_fault m o (each j.holds r) k) 24

  unfoldable pub next_on : Shelved j.Lent → ShelfCall m.Call → Shelved j.Lent
  unfolding save_fault_on back_fault_on
  next_on r (plain c) = record { current = j.next r.current c; saved = r.saved }
  next_on r (save k) = saves r k (is_none (save_fault_on r k))
  next_on r (back k) = brings j.fresh r k (is_none (back_fault_on r k))

  unfoldable pub answer_on : Shelved j.Lent → ShelfCall m.Call → j.Reply
  unfolding save_fault_on back_fault_on answer_by
  answer_on r (plain c) = j.answer r.current c
  answer_on r (save k) = j.said (answer_by m o (save_fault_on r k))
  answer_on r (back k) = j.said (answer_by m o (back_fault_on r k))

  unfoldable pub list_on : Shelved j.Lent → ShelfCall m.Call → List ℕ
  list_on r (plain c) = j.list r.current c
  list_on r (save k) = []
  list_on r (back k) = []

  abbrev pub shelf_calls : Interface (shelved m o)
  shelf_calls = record {
    Lent = Shelved j.Lent;
    Reply = j.Reply;
    fresh = cleared j.fresh;
    next = next_on;
    answer = answer_on;
    list = list_on;
    said = j.said;
    holds = each j.holds;
    made = each j.made;
    sound = sound_both j;
  }

  -- the answer of an accepted save or back
  abbrev pub Accepts : List (ShelfCall m.Call) → ShelfCall m.Call → Type 0
  Accepts xs x = answer_on (record_of shelf_calls xs) x ≡ j.said o.accepted

-- "the hunt after an accepted back equals the hunt at the latest accepted save under that name": xs are the calls before the back k
pub record Restored {m : Machine} (o : Searches m) (j : Interface m) (xs : List (ShelfCall m.Call)) (k : ℕ) : Type 0 where
  pub before : List (ShelfCall m.Call)
  pub since : List (ShelfCall m.Call)
  -- an accepted save under that name, and none since
  pub split : xs ≡ before ++ (save k ∷ since)
  pub accepted : Accepts o j before (save k)
  pub latest : (ys zs : List (ShelfCall m.Call)) → since ≡ ys ++ (save k ∷ zs) → ¬ Accepts o j (before ++ (save k ∷ ys)) (save k)
  -- the search's record, to the byte
  pub same : (record_of (shelf_calls o j) (xs ++ (back k ∷ []))).current ≡ (record_of (shelf_calls o j) before).current
