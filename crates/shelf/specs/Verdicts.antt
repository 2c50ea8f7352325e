-- WHATEVER CALLS ARE MADE, A FINISHED SEARCH TELLS AND SHOWS THE OPTIMUM of what was opened, and a search ends (`Verdicts`); and which calls are
-- accepted (`Acceptance`). It is said of any way in which the seven calls can be made (`Calling`), by what a caller sees: what was sent, what was
-- answered, what stands in the list of show; not by document 01's machine, nor by what a record holds. Demand 3 (Demand3) says more, and rests on
-- more. Definitions only; proofs/Verdicts shows that they hold.
use Rattle.std.specs.Prelude.{◌≡◌, Bool, true, false, not, cond, ◌&&◌, List, [], ◌∷◌, ◌++◌, ℕ, suc, ◌-◌, ◌^◌, ◌≤◌, length}
use Rattle.lists.specs.Numbers.{up_to}
use Rattle.lists.specs.Select.{select}
use Rattle.lent_records.specs.Places.{is_name, under}
use Rattle.graph.specs.Network.{network}
use Rattle.tree_theory.specs.Valid.{is_free}
use Rattle.tours.specs.OneNetwork.{OneNetwork}
use Rattle.afloat.specs.Over.{ashore, mark_over}
use Rattle.machine.specs.Machine.{Opening}
use Rattle.machine.specs.Calls.{Call, opens, run, tell, show, close, Verdict, going_on, Answer, tells, fault, History, no_opening, since, noted}
use Rattle.machine.specs.Demand3.{NumberedAlike, Says, ShowAlike}
use Rattle.shelf_theory.specs.Shelves.{Shelved, plain, save, back, cleared, saves, brings, is_none}
use Rattle.shelf.specs.Demand3.{AnyCall}

-- a way in which the calls can be made: what is lent, what a call leaves of it, what it answers, and the list of show as the call leaves it
pub record Calling (A : Type 0) : Type 1 where
  pub Lent : Type 0
  pub fresh : Lent
  pub next : Lent → AnyCall → Lent
  pub answer : Lent → AnyCall → A
  pub list : Lent → AnyCall → List ℕ

-- ---- lists of calls "from fresh records"

module _ {A : Type 0} (i : Calling A) where
  -- "Each call has arguments of its own and gets the record as the call before left it, refused or not"
  unfoldable pub left_from : i.Lent → List AnyCall → i.Lent
  left_from r [] = r
  left_from r (c ∷ cs) = left_from (i.next r c) cs

  -- what the next call answers, and leaves in its list
  unfoldable pub answered : List AnyCall → AnyCall → A
  unfolding left_from
  answered cs c = i.answer (left_from i.fresh cs) c

  unfoldable pub listed : List AnyCall → AnyCall → List ℕ
  unfolding left_from
  listed cs c = i.list (left_from i.fresh cs) c

-- what a call makes of the opening and of the runs since, and of those that are saved, by whether it was accepted: "after an accepted back the hunt
-- that a list leaves is the restored one, with the opening it had"
abbrev pub noted_if : Bool → AnyCall → Shelved History → Shelved History
noted_if b (plain c) h = record { current = cond b (noted c h.current) h.current; saved = h.saved }
noted_if b (save k) h = saves h k b
noted_if b (back k) h = brings no_opening h k b

-- ---- which are accepted: "Accepted means not refused." `accepts` says it of an answer

-- whether a search is open
abbrev pub is_opened : History → Bool
is_opened no_opening = false
is_opened (since o total) = true

-- "20 no hunt is open (run, tell, show, close); 21 one is open (opening)", and what an opening is refused for; "save with no hunt open is still 20";
-- "33 when a name is not 1 to 8 ..; 34 .. when nothing stands under a name to bring back". Show is accepted where there is a tour to show (`Shows`)
abbrev pub Taken : Shelved History → AnyCall → Bool → Type 0
Taken h (plain (opens o)) b = b ≡ not (is_opened h.current) && is_none (fault o)
Taken h (plain (run budget)) b = b ≡ is_opened h.current
Taken h (plain tell) b = b ≡ is_opened h.current
Taken h (plain (show l)) b = Unit {0}
Taken h (plain close) b = b ≡ is_opened h.current
Taken h (save k) b = b ≡ is_opened h.current && is_name k
Taken h (back k) b = b ≡ is_name k && is_opened (under no_opening h.saved k)

module _ {A : Type 0} (accepts : A → Bool) (i : Calling A) where
  unfoldable pub histories_from : i.Lent → Shelved History → List AnyCall → Shelved History
  histories_from r h [] = h
  histories_from r h (c ∷ cs) = histories_from (i.next r c) (noted_if (accepts (i.answer r c)) c h) cs

  unfoldable pub histories : List AnyCall → Shelved History
  unfolding histories_from
  histories cs = histories_from i.fresh (cleared no_opening) cs

  -- each call is accepted that should be
  abbrev pub Acceptance : Type 0
  Acceptance = (cs : List AnyCall) (c : AnyCall) → Taken (histories cs) c (accepts (answered i cs c))

  -- "The hunt that a list leaves": opened with o, and its run calls allow so many nodes in all
  abbrev pub OpenedBy : List AnyCall → Opening → ℕ → Type 0
  OpenedBy cs o total = (histories cs).current ≡ since o total

  -- of a back k after the calls cs: the list splits at the latest accepted save under that name, and whichever of the five calls comes next answers
  -- and leaves in its list what it would have there
  abbrev pub AsSaved : List AnyCall → ℕ → Type 0
  AsSaved cs k =
      (before between : List AnyCall)
      × (cs ≡ before ++ (save k ∷ between))
      × (accepts (answered i before (save k)) ≡ true)
      × ((ds es : List AnyCall) → between ≡ ds ++ (save k ∷ es) → accepts (answered i (before ++ (save k ∷ ds)) (save k)) ≡ false)
      × ((c : Call) → (answered i (cs ++ (back k ∷ [])) (plain c) ≡ answered i before (plain c))
      × (listed i (cs ++ (back k ∷ [])) (plain c) ≡ listed i before (plain c)))

-- ---- what is told and shown; `said` is how an answer is said

module _ {A : Type 0} (said : Answer → A) (i : Calling A) where
  -- tell does not say 'going on', with whatever count
  abbrev pub Ended : List AnyCall → Type 0
  Ended cs = (count : ℕ) → ¬ (answered i cs (plain tell) ≡ said (tells going_on count))

  -- "What it tells or shows is what tell, or show with a list of m bytes, gives next."
  abbrev pub SaysNext : List AnyCall → Opening → Verdict → Type 0
  SaysNext cs o v = Says said (λ c. answered i cs (plain c)) (λ c. listed i cs (plain c)) o v

  abbrev pub ShowsAlike : List AnyCall → List AnyCall → Type 0
  ShowsAlike cs ds =
      ShowAlike (λ c. answered i cs (plain c)) (λ c. listed i cs (plain c)) (λ c. answered i ds (plain c)) (λ c. listed i ds (plain c))

-- "k legs being free at the start": of the edges 1 to m those that are marked free and touch no vertex ashore
unfoldable pub free_edges : Opening → ℕ
unfolding select up_to network ashore
free_edges o = length (select (λ k. is_free (mark_over (ashore o.ashore) (network o.graph) k)) (up_to o.graph.m))

pub record Verdicts {A : Type 0} (said : Answer → A) (accepts : A → Bool) (i : Calling A) : Type 0 where
  -- "'none' exactly when no round keeps the required legs, avoids the struck and costs at most the ceiling. Otherwise each hunt shows such a round, of
  -- exactly the cost told, and every other such round costs at least as much."; of least cost it is the first (document 02, C-23)
  pub right : (cs : List AnyCall) (o : Opening) (total : ℕ) → OpenedBy accepts i cs o total → Ended said i cs
      → (v : Verdict) × SaysNext said i cs o v
  -- "A hunt whose accepted run calls allow at least 2^(k+1) − 1 nodes in all, k legs being free at the start and k at most 62, is finished."
  pub ends : (cs : List AnyCall) (o : Opening) (total : ℕ) → OpenedBy accepts i cs o total
      → free_edges o ≤ 62 → 2 ^ suc (free_edges o) - 1 ≤ total → Ended said i cs
  -- "Take two such lists that each leave a finished hunt, both of one sea (its legs in any order) and opened with one ceiling, whatever dues, sweeps
  -- and steps the two have. Tell gives both the same verdict"; C-23: "With legs numbered alike, finished hunts now agree on the round as well"
  pub agree : (cs ds : List AnyCall) (o p : Opening) (x y : ℕ)
      → OpenedBy accepts i cs o x → Ended said i cs → OpenedBy accepts i ds p y → Ended said i ds
      → OneNetwork (network o.graph) (network p.graph) → o.ashore ≡ p.ashore → o.settings.ceiling ≡ p.settings.ceiling
      → (v : Verdict) × SaysNext said i cs o v × SaysNext said i ds p v
      × (NumberedAlike (network o.graph) (network p.graph) → ShowsAlike said i cs ds)
  -- "the hunt after an accepted back equals the hunt at the latest accepted save under that name"
  pub restores : (cs : List AnyCall) (k : ℕ) → accepts (answered i cs (back k)) ≡ true → AsSaved accepts i cs k
