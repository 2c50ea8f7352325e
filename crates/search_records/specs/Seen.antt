-- WHAT A RECORD IS SEEN TO HOLD (`state_in` of crate search), by its check and the machine's state; and whether one record of a list is
-- broken. Assumes nothing.
use Rattle.std.specs.Prelude.{◌≡◌, refl, Bool, true, false, not, cond, ◌&&◌, ◌||◌, List, [], ◌∷◌, map, ℕ, eqb}
use Rattle.std.specs.List.{list_all, list_any}
use Rattle.std.proofs.Common.{sym, ap, ◌∙◌}
use Rattle.std.proofs.lemmas.Bool.{not-true, not-false}
use Rattle.lists.specs.Bools.{by_cases}
use Rattle.machine.specs.Machine as machine
use Rattle.machine.specs.Machine.{no_search, searching, finished}
use Rattle.search.specs.Record.{decode}
use Rattle.search.specs.Check.{check}
use Rattle.search.specs.Seen.{state_of, state_in}
use Rattle.search.specs.declared.Search.{Search}
use Rattle.search.specs.declared.State.{State}
use Rattle.search.specs.declared.State.TheVariants.{Broken, Empty, Waiting, Finished}
use Rattle.search_records.specs.Searching.{is_open}

-- no two kinds have one number
abbrev pub kind : State → ℕ
kind Broken = 0
kind Empty = 1
kind Waiting = 2
kind Finished = 3

of_kind : ℕ → State
of_kind k = cond (eqb k 0) Broken (cond (eqb k 1) Empty (cond (eqb k 2) Waiting Finished))

again : (x : State) → of_kind (kind x) ≡ x
unfolding of_kind
again Broken = refl
again Empty = refl
again Waiting = refl
again Finished = refl

pub kind-injective : (a b : State) → kind a ≡ kind b → a ≡ b
kind-injective a b e = sym (again a) ∙ ap of_kind e ∙ again b

-- ---- a record

module _ (s : Search) where
  pub passing_state : check s ≡ true → state_in s ≡ state_of (decode s)
  unfolding state_in
  passing_state e = rw e

  pub broken_is : eqb (kind (state_in s)) 0 ≡ not (check s)
  unfolding state_in
  broken_is = by_cases (check s) (λ p. rw p (unbroken (decode s))) (λ p. rw p)
    where
      unbroken : (st : machine.State) → eqb (kind (state_of st)) 0 ≡ false
      unbroken no_search = refl
      unbroken (searching p) = by_cases (finished p) (λ f. rw f) (λ f. rw f)

-- ---- a state of the machine

pub open_is : (st : machine.State) → is_open st ≡ not (eqb (kind (state_of st)) 1)
open_is no_search = refl
open_is (searching p) = by_cases (finished p) (λ f. rw f) (λ f. rw f)

-- ---- a list of records

abbrev pub any_broken : List Search → Bool
any_broken l = list_any (λ s. eqb (kind (state_in s)) 0) l

pub any_seen : (l : List Search) → list_any (λ x. eqb (kind x) 0) (map state_in l) ≡ any_broken l
any_seen [] = refl
any_seen (s ∷ l) = ap (λ (b : Bool). eqb (kind (state_in s)) 0 || b) (any_seen l)

some_broken : (l : List Search) → any_broken l ≡ not (list_all check l)
some_broken [] = refl
some_broken (s ∷ l) = rw (broken_is s, some_broken l) (either (check s) (list_all check l))
  where
    either : (b c : Bool) → not b || not c ≡ not (b && c)
    either true c = refl
    either false c = refl

-- none is broken where each passes
pub all_whole : (l : List Search) → any_broken l ≡ false → list_all check l ≡ true
all_whole l e = not-false (list_all check l) (sym (some_broken l) ∙ e)

pub one_broken : (l : List Search) → any_broken l ≡ true → list_all check l ≡ false
one_broken l e = not-true (list_all check l) (sym (some_broken l) ∙ e)
