-- Laws that no proof cites today: the test of a name; what tell's answer says of a record, as a number; the refusals of save and back, each by the
-- parts of its test. Assumes nothing.
use Rattle.std.specs.Prelude.{◌≡◌, refl, Bool, true, false, not, cond, ◌&&◌, map, ℕ, zero, suc, ◌-◌, ◌≤◌, ◌<◌, leb, length, get_or}
use Rattle.std.specs.List.{list_all}
use Rattle.std.proofs.Common.{sym, ap, ◌∙◌, arith, le-leb}
use Rattle.std.proofs.lemmas.Bool.{lt-leb}
use Rattle.std.proofs.lemmas.List.Sums.{AllPass-from_list_all}
use Rattle.lists.specs.All.{every_of, every_is}
use Rattle.lists.specs.Bools.{and_no_right}
use Rattle.lent_records.specs.Places.{is_name, name_range, under, under_at, under-map}
use Rattle.machine.specs.Machine.{State, no_search, searching}
use Rattle.machine.specs.Calls.{tell, Answer, refused, accepted, runs, Verdict, tells, verdict, step}
use Rattle.search.specs.Record.{fresh, decode, encode}
use Rattle.search.specs.Inverse.{decode-encode}
use Rattle.search.specs.Check.{check}
use Rattle.search.specs.Replies.{Outcome, reply}
use Rattle.search.specs.ReplyCases.{reply_24}
use Rattle.search.specs.declared.Search.{Search}
use Rattle.search_records.specs.Searching.{is_open}
use Rattle.shelf_theory.specs.Shelves.{each, save_fault, back_fault}
use Rattle.shelf_theory.specs.ShelfRecords.{sound_both, save_fault_on, back_fault_on}
use Rattle.shelf.specs.declared.Shelf.{Shelf}
use Rattle.shelf.specs.Replies.{both, plain_calls, save_number, back_number, save_reply, back_reply}
use Rattle.shelf.specs.Cases as cases

-- ---- a name

pub name_low : (k : ℕ) → k < 1 → is_name k ≡ false
name_low k h = ap (λ (b : Bool). b && leb k 8) (lt-leb 1 k h)

pub name_is : (k : ℕ) → 1 ≤ k → leb k 8 ≡ is_name k
name_is k h = sym (ap (λ (b : Bool). b && leb k 8) (le-leb 1 k h))

-- ---- a record: 24 where it fails its check, 20 where no search is open, 0 otherwise

abbrev pub number_of : Answer → ℕ
number_of (refused number place) = number
number_of accepted = 0
number_of (runs done count) = 0
number_of (tells v count) = 0

unfoldable pub stands : Search → ℕ
stands s = cond (check s) (cond (is_open (decode s)) 0 20) 24

told-number : (v : Verdict) (n : ℕ) → number_of (tells v n) ≡ 0
told-number v n = refl

state-number : (st : State) → number_of (step st tell).answer ≡ cond (is_open st) 0 20
unfolding step
state-number no_search = refl
state-number (searching s) = told-number (verdict s) s.count

module _ (s : Search) where
  passing : check s ≡ true → stands s ≡ cond (is_open (decode s)) 0 20
  unfolding stands
  passing e = rw e

  failing : check s ≡ false → stands s ≡ 24
  unfolding stands
  failing e = rw e

  answering : check s ≡ true → number_of (reply s tell).answer ≡ cond (is_open (decode s)) 0 20
  unfolding reply
  answering e = rw e (state-number (decode s))

  pub tell_stands : number_of (reply s tell).answer ≡ stands s
  tell_stands = go (check s) refl
    where
      go : (b : Bool) → check s ≡ b → number_of (reply s tell).answer ≡ stands s
      go true e = answering e ∙ sym (passing e)
      go false e = ap (λ (o : Outcome). number_of o.answer) (reply_24 s tell e) ∙ sym (failing e)

  open_number : (b : Bool) → ◌≡◌ {A = ℕ} (cond b 0 20) 24 → ⊥
  open_number true h = omega arith
  open_number false h = omega arith

  pub failing_24 : stands s ≡ 24 → check s ≡ false
  failing_24 h = go (check s) refl
    where
      go : (b : Bool) → check s ≡ b → check s ≡ false
      go true e = absurd (open_number (is_open (decode s)) (sym (passing e) ∙ h))
      go false e = e

  pub passing_24 : (stands s ≡ 24 → ⊥) → check s ≡ true
  passing_24 h = go (check s) refl
    where
      go : (b : Bool) → check s ≡ b → check s ≡ true
      go true e = e
      go false e = absurd (h (failing e))

  module _ (e : check s ≡ true) where
    pub closed_20 : stands s ≡ 20 → is_open (decode s) ≡ false
    closed_20 h = go (is_open (decode s)) refl
      where
        go : (b : Bool) → is_open (decode s) ≡ b → is_open (decode s) ≡ false
        go true i = absurd (let z : cond true 0 20 ≡ 20 = ap (λ (b : Bool). cond b 0 20) (sym i) ∙ sym (passing e) ∙ h in omega arith)
        go false i = i

    pub open_20 : (stands s ≡ 20 → ⊥) → is_open (decode s) ≡ true
    open_20 h = go (is_open (decode s)) refl
      where
        go : (b : Bool) → is_open (decode s) ≡ b → is_open (decode s) ≡ true
        go true i = i
        go false i = absurd (h (passing e ∙ ap (λ (b : Bool). cond b 0 20) i))

-- ---- the refusals of save and back

module _ (s : Search) (h : Shelf) (k : ℕ) where
  unsound-s : check s ≡ false → sound_both plain_calls (both s h) ≡ false
  unfolding sound_both
  unsound-s e = rw e

  unsound-h : every_of check h.places ≡ false → sound_both plain_calls (both s h) ≡ false
  unfolding sound_both
  unsound-h e = and_no_right (check s) (list_all check h.places) (sym (every_is check h.places) ∙ e)

  pub save_24 : check s ≡ false → save_number s h k ≡ 24
  save_24 e = cases.save_24 s h k (unsound-s e)

  pub save_24_shelf : every_of check h.places ≡ false → save_number s h k ≡ 24
  save_24_shelf e = cases.save_24 s h k (unsound-h e)

  pub back_24 : check s ≡ false → back_number s h k ≡ 24
  back_24 e = cases.back_24 s h k (unsound-s e)

  pub back_24_shelf : every_of check h.places ≡ false → back_number s h k ≡ 24
  back_24_shelf e = cases.back_24 s h k (unsound-h e)

  module _ (e : check s ≡ true) (g : every_of check h.places ≡ true) where
    both-sound : sound_both plain_calls (both s h) ≡ true
    unfolding sound_both
    both-sound = rw (e, sym (every_is check h.places) ∙ g)

    save_is : save_number s h k ≡ cond (not (is_open (decode s))) 20 (cond (not (is_name k)) 33 0)
    unfolding save_number save_fault_on save_fault each
    save_is = rw both-sound

    pub save_20 : is_open (decode s) ≡ false → save_number s h k ≡ 20
    save_20 i = save_is ∙ rw i

    pub save_33 : is_open (decode s) ≡ true → is_name k ≡ false → save_number s h k ≡ 33
    save_33 i n = save_is ∙ rw (i, n)

    pub save_0 : is_open (decode s) ≡ true → is_name k ≡ true → save_number s h k ≡ 0
    save_0 i n = save_is ∙ rw (i, n)

    pub back_33 : is_name k ≡ false → back_number s h k ≡ 33
    back_33 n = cases.back_33 s h k both-sound n

    place_is : under no_search (map decode h.places) k ≡ decode (under fresh h.places k)
    unfolding encode
    place_is =
        ap (λ (z : State). under z (map decode h.places) k) (sym (decode-encode no_search tt)) ∙ under-map decode fresh h.places k

    back_is : is_name k ≡ true → back_number s h k ≡ cond (not (is_open (decode (under fresh h.places k)))) 34 0
    unfolding back_number back_fault_on back_fault each
    back_is n = rw (both-sound, n, place_is)

    pub back_34 : is_name k ≡ true → is_open (decode (under fresh h.places k)) ≡ false → back_number s h k ≡ 34
    back_34 n i = back_is n ∙ rw i

    pub back_0 : is_name k ≡ true → is_open (decode (under fresh h.places k)) ≡ true → back_number s h k ≡ 0
    back_0 n i = back_is n ∙ rw i

three_tests : (b o n : Bool) → cond b (cond (not o) 20 (cond (not n) 33 0)) 24 ≡ zero → n ≡ true
three_tests true true true e = refl
three_tests true true false e = absurd (omega arith)
three_tests true false n e = absurd (omega arith)
three_tests false o n e = absurd (omega arith)

two_tests : (b n o : Bool) → cond b (cond (not n) 33 (cond (not o) 34 0)) 24 ≡ zero → n ≡ true
two_tests true true o e = refl
two_tests true false o e = absurd (omega arith)
two_tests false n o e = absurd (omega arith)

module _ (s : Search) (h : Shelf) (k : ℕ) where
  pub save_range : save_number s h k ≡ 0 → (1 ≤ k) × (k ≤ 8)
  unfolding save_number save_fault_on save_fault
  save_range e =
      name_range k (three_tests (sound_both plain_calls (both s h)) (is_open (each decode (both s h)).current) (is_name k) e)

  pub back_range : back_number s h k ≡ 0 → (1 ≤ k) × (k ≤ 8)
  unfolding back_number back_fault_on back_fault
  back_range e =
      name_range k (two_tests (sound_both plain_calls (both s h)) (is_name k)
      (is_open (under no_search (each decode (both s h)).saved k)) e)

  pub save_refused : (n : ℕ) → save_number s h k ≡ n → (n ≡ 0 → ⊥) → record { shelf = h; answer = refused n 0 } ≡ save_reply s h k
  save_refused zero e f = absurd (f refl)
  save_refused (suc n) e f = cases.kept_save s h k n e

  pub back_refused : (n : ℕ) → back_number s h k ≡ n → (n ≡ 0 → ⊥) → record { search = s; answer = refused n 0 } ≡ back_reply s h k
  back_refused zero e f = absurd (f refl)
  back_refused (suc n) e f = cases.kept_back s h k n e

pub place_at : (h : Shelf) (k : ℕ) → length h.places ≡ 8 → (1 ≤ k) × (k ≤ 8) → (z : Search)
    → get_or h.places (k - 1) z ≡ under fresh h.places k
place_at h zero long r z = absurd (omega (arith, r.0))
place_at h (suc i) long r z = ap (λ (j : ℕ). get_or h.places j z) (omega arith) ∙ under_at z fresh h.places i (omega (arith, long, r.1))

pub place-passes : (h : Shelf) (k : ℕ) → length h.places ≡ 8 → (1 ≤ k) × (k ≤ 8) → every_of check h.places ≡ true
    → check (under fresh h.places k) ≡ true
unfolding under
place-passes h zero long r e = absurd (omega (arith, r.0))
place-passes h (suc i) long r e =
    AllPass-from_list_all check h.places (sym (every_is check h.places) ∙ e) i fresh (omega (arith, long, r.1))
