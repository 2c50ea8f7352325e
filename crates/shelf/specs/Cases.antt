-- The replies of save and back, case by case, as their code goes: 24, tested before all else; the other refusals in their order; and what is left.
-- Assumes nothing.
use Rattle.std.specs.Prelude.{◌≡◌, true, false, not, cond, length, get_or, set, Option, Some, None}
use Rattle.std.specs.Option.{ok_or}
use Rattle.std.specs.List.{list_all}
use Rattle.std.proofs.Common.{sym, ap, ◌∙◌, arith, true≢false, eqb, eqb-true, ne_eqb}
use Rattle.std.proofs.lemmas.List.Sums.{AllPass-from_list_all}
use mathlib.Core.List.{map}
use Prim.Native.Nat.{ℕ, zero, suc, ◌≤◌, ◌<◌}
use Rattle.lists.specs.Bools.{by_cases, and_both, and_no_right}
use Rattle.graph.specs.declared.refusals.Refusal.{Refusal}
use Rattle.graph.specs.declared.refusals.Refusal.TheVariants.{Name}
use Rattle.graph.specs.Refusals.{number, positive}
use Rattle.lent_records.specs.Places.{is_name, place_of, place_some, place_none, AtPlace, under, under-map, under_at, put}
use Rattle.machine.specs.Machine as machine
use Rattle.machine.specs.Machine.{no_search}
use Rattle.machine.specs.Calls.{refused, accepted}
use Rattle.search.specs.Record.{fresh, decode, encode}
use Rattle.search.specs.Check.{check}
use Rattle.search.specs.Inverse.{decode-encode}
use Rattle.search.specs.Replies.{Outcome}
use Rattle.search.specs.Seen.{state_of, state_in}
use Rattle.search.specs.declared.Search.{Search}
use Rattle.search.specs.declared.State.{State}
use Rattle.search.specs.declared.State.TheVariants.{Broken, Empty}
use Rattle.search_records.specs.Searching.{search_machine, searches, is_open}
use Rattle.search_records.specs.Seen.{kind, kind-injective, passing_state, broken_is, open_is, any_broken, all_whole, one_broken}
use Rattle.shelf_theory.specs.Shelves.{each, save_fault, back_fault, answer_by}
use Rattle.shelf_theory.specs.ShelfRecords.{sound_both, save_fault_on, back_fault_on, next_on, answer_on}
use Rattle.shelf.specs.declared.Shelf.{Shelf}
use Rattle.shelf.specs.Replies.{both, plain_calls, save_reply, back_reply, save_number, back_number}

-- ---- a search is open where one is seen

open_at : (st : machine.State) → ¬ (state_of st ≡ Empty) → is_open st ≡ true
open_at st n = open_is st ∙ ap not (ne_eqb (kind (state_of st)) 1 (λ e. n (kind-injective (state_of st) Empty e)))

none_at : (st : machine.State) → state_of st ≡ Empty → is_open st ≡ false
none_at st e = open_is st ∙ ap (λ (x : State). not (eqb (kind x) 1)) e

-- ---- 24

module _ (s : Search) (h : Shelf) where
  passing : ¬ (state_in s ≡ Broken) → check s ≡ true
  passing n = by_cases (check s) (λ e. e) (λ e. absurd (n (kind-injective (state_in s) Broken (eqb-true (kind (state_in s)) 0 (broken_is s ∙ ap not e)))))

  failing : state_in s ≡ Broken → check s ≡ false
  failing b = by_cases (check s) (λ e. absurd (true≢false (ap (λ (x : State). eqb (kind x) 0) (sym b) ∙ broken_is s ∙ ap not e))) (λ e. e)

  pub sound : ¬ (state_in s ≡ Broken) → any_broken h.places ≡ false
      → (sound_both plain_calls (both s h) ≡ true) × (state_in s ≡ state_of (decode s))
  unfolding sound_both
  sound n e = (rw (passing n) (all_whole h.places e), passing_state s (passing n))

  pub unsound_search : state_in s ≡ Broken → sound_both plain_calls (both s h) ≡ false
  unfolding sound_both
  unsound_search b = rw (failing b)

  pub unsound_shelf : any_broken h.places ≡ true → sound_both plain_calls (both s h) ≡ false
  unfolding sound_both
  unsound_shelf e = and_no_right (check s) (list_all check h.places) (one_broken h.places e)

-- ---- the refusals in their order

module _ (s : Search) (h : Shelf) (k : ℕ) where
  module _ (e : sound_both plain_calls (both s h) ≡ false) where
    pub save_24 : save_number s h k ≡ 24
    unfolding save_number save_fault_on
    save_24 = rw e

    pub back_24 : back_number s h k ≡ 24
    unfolding back_number back_fault_on
    back_24 = rw e

  module _ (e : sound_both plain_calls (both s h) ≡ true) where
    save_is : save_number s h k ≡ cond (not (is_open (decode s))) 20 (cond (not (is_name k)) 33 0)
    unfolding save_number save_fault_on save_fault each
    save_is = rw e

    pub save_20 : state_of (decode s) ≡ Empty → save_number s h k ≡ 20
    save_20 o = save_is ∙ rw (none_at (decode s) o)

    pub save_named : ¬ (state_of (decode s) ≡ Empty) → (o : Option ℕ) → o ≡ place_of k → AtPlace number (save_number s h k) k (ok_or o Name)
    save_named x None q = sym (save_is ∙ rw (open_at (decode s) x, place_none k q))
    save_named x (Some i) q = let p = place_some k i q in (save_is ∙ rw (open_at (decode s) x, p.0), p.1, p.2)

    back_is : back_number s h k ≡ back_fault search_machine searches (each decode (both s h)) k
    unfolding back_number back_fault_on
    back_is = rw e

    pub back_33 : is_name k ≡ false → back_number s h k ≡ 33
    unfolding back_fault
    back_33 n = back_is ∙ rw n

    module _ (i : ℕ) (z : Search) (n : is_name k ≡ true) (named : k ≡ suc i) (b : i < 8) (long : length h.places ≡ 8) where
      abbrev there : Search
      there = get_or h.places i z

      place_is : under no_search (map decode h.places) k ≡ decode there
      unfolding encode
      place_is =
          ap (λ (st : machine.State). under st (map decode h.places) k) (sym (decode-encode no_search tt))
          ∙ under-map decode fresh h.places k
          ∙ ap (λ (j : ℕ). decode (under fresh h.places j)) named
          ∙ ap decode (sym (under_at z fresh h.places i (omega (arith, long))))

      pub place-passes : check there ≡ true
      unfolding sound_both
      place-passes = AllPass-from_list_all check h.places (and_both (check s) (list_all check h.places) e).1 i z (omega (arith, long))

      place_back : back_number s h k ≡ cond (not (is_open (decode there))) 34 0
      unfolding back_fault each
      place_back = back_is ∙ rw (n, place_is)

      pub back_34 : state_in there ≡ Empty → back_number s h k ≡ 34
      back_34 o = place_back ∙ rw (none_at (decode there) (sym (passing_state there place-passes) ∙ o))

      pub back_0 : ¬ (state_in there ≡ Empty) → back_number s h k ≡ 0
      back_0 o = place_back ∙ rw (open_at (decode there) (λ q. o (passing_state there place-passes ∙ q)))

-- ---- the calls

module _ (s : Search) (h : Shelf) (k : ℕ) where
  pub kept_save : (n : ℕ) → save_number s h k ≡ suc n → record { shelf = h; answer = refused (suc n) 0 } ≡ save_reply s h k
  unfolding save_reply save_number next_on answer_on answer_by
  kept_save n e = rw e

  pub save_refused : (r : Refusal) → number r ≡ save_number s h k → record { shelf = h; answer = refused (number r) 0 } ≡ save_reply s h k
  save_refused r e = go (number r) (positive r) (sym e)
    where
      go : (n : ℕ) → 1 ≤ n → save_number s h k ≡ n → record { shelf = h; answer = refused n 0 } ≡ save_reply s h k
      go zero p e = absurd (omega arith)
      go (suc n) p e = kept_save n e

  pub save_accepted : (i : ℕ) → save_number s h k ≡ 0 → k ≡ suc i
      → record { shelf = record { places = set h.places i s }; answer = accepted } ≡ save_reply s h k
  unfolding save_reply save_number next_on answer_on answer_by put
  save_accepted i e n = rw (e, n)

  pub kept_back : (n : ℕ) → back_number s h k ≡ suc n → record { search = s; answer = refused (suc n) 0 } ≡ back_reply s h k
  unfolding back_reply back_number next_on answer_on answer_by
  kept_back n e = rw e

  pub back_refused : (r : Refusal) → number r ≡ back_number s h k → record { search = s; answer = refused (number r) 0 } ≡ back_reply s h k
  back_refused r e = go (number r) (positive r) (sym e)
    where
      go : (n : ℕ) → 1 ≤ n → back_number s h k ≡ n → record { search = s; answer = refused n 0 } ≡ back_reply s h k
      go zero p e = absurd (omega arith)
      go (suc n) p e = kept_back n e

  brought : back_number s h k ≡ 0 → record { search = under fresh h.places k; answer = accepted } ≡ back_reply s h k
  unfolding back_reply back_number next_on answer_on answer_by
  brought e = rw e

  pub back_accepted : (i : ℕ) (z : Search) → i < length h.places → back_number s h k ≡ 0 → k ≡ suc i
      → record { search = get_or h.places i z; answer = accepted } ≡ back_reply s h k
  back_accepted i z b e n =
      ap (λ (u : Search). with_search u) (under_at z fresh h.places i b ∙ ap (λ (j : ℕ). under fresh h.places j) (sym n)) ∙ brought e
    where
      with_search : Search → Outcome
      with_search u = record { search = u; answer = accepted }
