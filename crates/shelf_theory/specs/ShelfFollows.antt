-- THE SEVEN CALLS FOLLOW THEIR MACHINE where the machine's own follow it (`shelf_follows`), so that every list of them is the machine's, to the
-- byte (`shelf_list`). Assumes nothing.
use Rattle.std.specs.Prelude.{◌≡◌, Bool, ◌&&◌}
use Rattle.std.proofs.Math.Path.{refl, ap}
use Rattle.std.proofs.Common.{◌∙◌}
use Rattle.std.proofs.Math.Bool.{true, false, cond}
use mathlib.Core.List.{List, map}
use Prim.Native.Nat.{ℕ}
use Rattle.std.specs.List.{AllByRecursion, list_all}
use Rattle.lent_records.specs.Machine.{Machine, Searches, leaves}
use Rattle.lent_records.specs.Every.{every_replicate, every_put, every_under, every_back, every_passes}
use Rattle.lent_records.specs.Records.{Interface, record_of, AsTheMachine}
use Rattle.lent_records.specs.Following.{Follows, as_the_machine}
use Rattle.shelf_theory.specs.Shelves.{Shelved, ShelfCall, plain, save, back, cleared, saves, brings, each, is_none, save_fault, back_fault}
use Rattle.shelf_theory.specs.Shelves.{answer_by, shelf_next, shelf_answer, shelf_lent, shelved}
use Rattle.shelf_theory.specs.ShelfRecords.{sound_both, save_fault_on, back_fault_on, next_on, answer_on, list_on, shelf_calls}
use Rattle.shelf_theory.specs.Paths.{each-cleared, each-saves, each-brings}

module _ {m : Machine} (o : Searches m) (j : Interface m) (f : Follows j) where
  abbrev pub KeptBoth : Shelved m.State → Type 0
  KeptBoth d = f.Kept d.current × AllByRecursion f.Kept d.saved

  kept_begun : KeptBoth (cleared m.begin)
  unfolding cleared
  kept_begun = (f.begun, every_replicate f.Kept 8 m.begin f.begun)

  kept_next : (d : Shelved m.State) (x : ShelfCall m.Call) → KeptBoth d → KeptBoth (shelf_next m o d x)
  unfolding shelf_next
  kept_next d (plain c) h = (f.goes_on d.current c h.0, h.1)
  kept_next d (save k) h = go (is_none (save_fault m o d k))
    where
      go : (b : Bool) → KeptBoth (saves d k b)
      go true = (h.0, every_put f.Kept d.saved k d.current h.1 h.0)
      go false = h
  kept_next d (back k) h = go (is_none (back_fault m o d k))
    where
      go : (b : Bool) → KeptBoth (brings m.begin d k b)
      go true = (every_under f.Kept m.begin d.saved k h.1 f.begun, h.1)
      go false = h

  -- ---- one call on the records of a state

  module _ (d : Shelved m.State) (h : KeptBoth d) where
    passes : sound_both j (each j.made d) ≡ true
    unfolding sound_both each
    passes =
        ap (λ (b : Bool). b && list_all j.sound (map j.made d.saved)) (f.sound d.current h.0)
        ∙ every_passes f.Kept j.made j.sound f.sound d.saved h.1

    returns : each j.holds (each j.made d) ≡ d
    unfolding each
    returns = λ i. record {
      current = f.back d.current h.0 i;
      saved = every_back f.Kept j.made j.holds f.back d.saved h.1 i;
    }

    save_fault_lem : (k : ℕ) → save_fault_on o j (each j.made d) k ≡ save_fault m o d k
    unfolding save_fault_on
    save_fault_lem k =
        ap (λ (b : Bool). cond b (save_fault m o (each j.holds (each j.made d)) k) 24) passes
        ∙ ap (λ (e : Shelved m.State). save_fault m o e k) returns

    back_fault_lem : (k : ℕ) → back_fault_on o j (each j.made d) k ≡ back_fault m o d k
    unfolding back_fault_on
    back_fault_lem k =
        ap (λ (b : Bool). cond b (back_fault m o (each j.holds (each j.made d)) k) 24) passes
        ∙ ap (λ (e : Shelved m.State). back_fault m o e k) returns

    next_is : (x : ShelfCall m.Call) → next_on o j (each j.made d) x ≡ each j.made (shelf_next m o d x)
    unfolding next_on shelf_next
    next_is (plain c) = unfold each in (λ i. record { current = f.next d.current h.0 c i; saved = map j.made d.saved })
    next_is (save k) =
        ap (λ (n : ℕ). saves (each j.made d) k (is_none n)) (save_fault_lem k)
        ∙ each-saves j.made d k (is_none (save_fault m o d k))
    next_is (back k) =
        ap (λ (n : ℕ). brings j.fresh (each j.made d) k (is_none n)) (back_fault_lem k)
        ∙ ap (λ (z : j.Lent). brings z (each j.made d) k (is_none (back_fault m o d k))) f.starts
        ∙ each-brings j.made m.begin d k (is_none (back_fault m o d k))

    answer_is : (x : ShelfCall m.Call) → answer_on o j (each j.made d) x ≡ j.said (shelf_answer m o d x)
    unfolding answer_on shelf_answer
    answer_is (plain c) = unfold each in f.answer d.current h.0 c
    answer_is (save k) = ap (λ (n : ℕ). j.said (answer_by m o n)) (save_fault_lem k)
    answer_is (back k) = ap (λ (n : ℕ). j.said (answer_by m o n)) (back_fault_lem k)

    list_is : (x : ShelfCall m.Call) → list_on o j (each j.made d) x ≡ shelf_lent m o d x
    unfolding list_on shelf_lent
    list_is (plain c) = unfold each in f.list d.current h.0 c
    list_is (save k) = refl
    list_is (back k) = refl

  starts : cleared j.fresh ≡ each j.made (cleared m.begin)
  starts = ap cleared f.starts ∙ each-cleared j.made m.begin

  pub shelf_follows : Follows (shelf_calls o j)
  shelf_follows = record {
    Kept = KeptBoth;
    begun = kept_begun;
    goes_on = kept_next;
    starts = starts;
    next = next_is;
    answer = answer_is;
    list = list_is;
    back = returns;
    sound = passes;
  }

  -- EVERY LIST OF THE SEVEN CALLS is the machine's, to the byte
  pub shelf_list : (xs : List (ShelfCall m.Call)) → AsTheMachine (shelf_calls o j) xs
  shelf_list xs = as_the_machine (shelf_calls o j) shelf_follows xs

  -- ---- an accepted back

  -- the search's record is that of the state which the list leaves
  pub search_is : (xs : List (ShelfCall m.Call)) → (record_of (shelf_calls o j) xs).current ≡ j.made (leaves (shelved m o) xs).current
  unfolding each
  search_is xs = ap (λ (r : Shelved j.Lent). r.current) (shelf_list xs).bytes
