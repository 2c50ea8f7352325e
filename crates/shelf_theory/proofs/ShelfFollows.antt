-- An accepted back restores the search's record to the byte (`restores_record`); and what a plain call answers next is what it answers after
-- the path (`plain-answer`, `plain_list`), so that claims on plain lists are claims on these. Assumes nothing.
use Rattle.std.specs.Prelude.{◌≡◌}
use Rattle.std.proofs.Math.Path.{refl, sym, ap}
use Rattle.std.proofs.Common.{◌∙◌}
use Rattle.std.proofs.Math.Bool.{true, true≢false}
use mathlib.Core.List.{List, [], ◌∷◌, ◌++◌}
use Prim.Native.Nat.{ℕ, zero, suc}
use Rattle.lent_records.specs.Machine.{Machine, Searches, leaves}
use Rattle.lent_records.specs.Records.{Interface, record_of}
use Rattle.lent_records.specs.Following.{Follows}
use Rattle.shelf_theory.specs.Shelves.{ShelfCall, plain, save, back, save_fault, back_fault}
use Rattle.shelf_theory.specs.Shelves.{answer_by, shelf_answer, shelf_lent, shelved}
use Rattle.shelf_theory.specs.ShelfRecords.{answer_on, list_on, shelf_calls, Accepts, Restored}
use Rattle.shelf_theory.specs.Paths.{path}
use Rattle.shelf_theory.proofs.Paths.{current_is}
use Rattle.shelf_theory.specs.Restores.{RestoredState}
use Rattle.shelf_theory.proofs.Restores.{restores}
use Rattle.shelf_theory.specs.ShelfFollows.{shelf_list, search_is}

module _ {m : Machine} (o : Searches m) (j : Interface m) (f : Follows j) where
  -- ---- an accepted back

  module _ (apart : (n : ℕ) → ¬ (j.said (m.refused (suc n)) ≡ j.said o.accepted)) where
    accepted_none : (n : ℕ) → j.said (answer_by m o n) ≡ j.said o.accepted → m.is_accepted (answer_by m o n) ≡ true
    unfolding answer_by
    accepted_none zero e = o.acceptance
    accepted_none (suc n) e = absurd (apart n e)

    none_accepted : (n : ℕ) → m.is_accepted (answer_by m o n) ≡ true → j.said (answer_by m o n) ≡ j.said o.accepted
    unfolding answer_by
    none_accepted zero e = refl
    none_accepted (suc n) e = absurd (true≢false (sym e ∙ m.refusal (suc n)))

    -- AN ACCEPTED BACK RESTORES THE RECORD
    pub restores_record : (xs : List (ShelfCall m.Call)) (k : ℕ) → Accepts o j xs (back k) → Restored o j xs k
    unfolding shelf_answer
    restores_record xs k h = record {
      before = r.before;
      since = r.since;
      split = r.split;
      accepted = (shelf_list {m = m} o j f r.before).answered (save k) ∙ none_accepted (save_fault m o (leaves (shelved m o) r.before) k) r.accepted;
      latest = λ ys zs e a. true≢false
          (sym (accepted_none (save_fault m o (leaves (shelved m o) (r.before ++ (save k ∷ ys))) k)
          (sym ((shelf_list {m = m} o j f (r.before ++ (save k ∷ ys))).answered (save k)) ∙ a)) ∙ r.latest ys zs e);
      same = search_is {m = m} o j f (xs ++ (back k ∷ [])) ∙ ap j.made r.state ∙ sym (search_is {m = m} o j f r.before);
    }
      where
        r : RestoredState m o xs k
        r = restores m o xs k
            (accepted_none (back_fault m o (leaves (shelved m o) xs) k) (sym ((shelf_list {m = m} o j f xs).answered (back k)) ∙ h))

  -- ---- what a plain call answers and leaves next is what it does after the path

  pub plain-answer : (xs : List (ShelfCall m.Call)) (c : m.Call)
      → answer_on o j (record_of (shelf_calls o j) xs) (plain c) ≡ j.said (m.answer (leaves m (path m o xs)) c)
  unfolding shelf_answer
  plain-answer xs c = (shelf_list {m = m} o j f xs).answered (plain c) ∙ ap (λ (s : m.State). j.said (m.answer s c)) (current_is m o xs)

  pub plain_list : (xs : List (ShelfCall m.Call)) (c : m.Call)
      → list_on o j (record_of (shelf_calls o j) xs) (plain c) ≡ m.lent (leaves m (path m o xs)) c
  unfolding shelf_lent
  plain_list xs c = (shelf_list {m = m} o j f xs).listed (plain c) ∙ ap (λ (s : m.State). m.lent s c) (current_is m o xs)
