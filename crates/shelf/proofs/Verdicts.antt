-- THE VERDICTS HOLD of whatever calls answer as the machine does (`verdicts_of`), so of crate search's and this crate's as their contracts name them
-- (`verdicts_said`), however their answers are said, if acceptance and 'going on' are seen in them: the histories that are read off the answers are
-- those noted beside the machine's states, and tell says 'going on' exactly until the machine's search is finished. Assumes nothing.
use Rattle.std.specs.Prelude.{◌≡◌, refl, Bool, true, false, not, cond, ◌&&◌, List, [], ◌∷◌, ◌++◌, ℕ, zero, suc, ◌+◌, ◌-◌, ◌^◌, ◌≤◌, leb, length}
use Rattle.std.proofs.Common.{sym, ap, ◌∙◌, subst, arith, true≢false, leb-true, append_assoc, append-nil}
use Rattle.lists.specs.Bools.{bit, by_cases, and_both}
use Rattle.lists.specs.All.{every_of, every_of_in}
use Rattle.lists.specs.Members.{◌∈◌}
use Rattle.lists.specs.Numbers.{up_to}
use Rattle.lists.specs.Rows.{row}
use Rattle.lists.specs.Select.{keep, select}
use Rattle.graph.specs.Network.{Mark, Network, network}
use Rattle.tree_theory.specs.Valid.{is_free}
use Rattle.tours.specs.OneNetwork.{OneNetwork}
use Rattle.afloat.specs.Over.{ashore, mark_over}
use Rattle.lent_records.specs.Machine.{leaves, noted}
use Rattle.lent_records.specs.Places.{is_name, under, under-map}
use Rattle.lent_records.specs.Records.{Interface, record_after, record_of, AsTheMachine}
use Rattle.machine.specs.Outcomes.{Incumbent, no_tour, a_tour}
use Rattle.machine.specs.Machine.{Opening, active_network, Progress, State, no_search, searching, finished, frees, marks_of}
use Rattle.machine.specs.Calls.{Call, opens, run, tell, close, Verdict, going_on, verdict, verdict_of, Answer, refused, accepted, runs, tells, is_accepted}
use Rattle.machine.specs.Calls.{fault, opened_by, run_by, step, History, no_opening, since, free_at_start}
use Rattle.machine.specs.Calls as plainly
use Rattle.machine.specs.Demand3.{Finished, Says}
use Rattle.machine.specs.Refusals.{unfit, faults, refused-leaves}
use Rattle.machine.proofs.Invariant.{Fine, fine}
use Rattle.search.specs.Record.{fresh}
use Rattle.search.specs.declared.Search.{Search}
use Rattle.search_records.specs.Searching.{search_machine, is_open, searches, note}
use Rattle.search_records.specs.Calls.{search_calls}
use Rattle.search_records.specs.Same.{same-leaves, same-history}
use Rattle.shelf_theory.specs.Shelves.{Shelved, plain, save, back, cleared, saves, brings, each, is_none, save_fault, back_fault, answer_by}
use Rattle.shelf_theory.specs.Shelves.{shelf_answer, shelf_lent, beside_next, beside, besides}
use Rattle.shelf_theory.specs.Paths.{paths}
use Rattle.shelf_theory.specs.Paths as paths
use Rattle.shelf_theory.proofs.Paths.{saved_is, histories_are}
use Rattle.shelf_theory.specs.Restores.{besides_last}
use Rattle.shelf_theory.specs.ShelfRecords.{save_fault_on, back_fault_on, next_on, answer_on, list_on, Restored}
use Rattle.shelf.specs.Replies.{both, fresh_shelf, save_reply, back_reply}
use Rattle.shelf.specs.Demand3.{AnyCall, search_shelved, search_left, history, LeavesFinished, calls_said, SaysAfter, ShowAlikeAfter, Demand3}
use Rattle.shelf.specs.Verdicts.{Calling, left_from, answered, listed, noted_if, is_opened, histories_from, histories, Acceptance, OpenedBy, AsSaved}
use Rattle.shelf.specs.Verdicts.{Ended, SaysNext, ShowsAlike, free_edges, Verdicts}
use Rattle.shelf.specs.Promised.{Lent, leaves_both, answer_of, list_of, calls}
use Rattle.shelf.proofs.Theorem.{path_of, same_past, same-state, demand_3}

-- ---- the free edges at the start

kept-length : (b : Bool) (k : ℕ) (l : List ℕ) → length (keep b k l) ≡ bit b + length l
kept-length true k l = omega arith
kept-length false k l = omega arith

number_low : (m : ℕ) (p : ℕ → Bool) → length (select p (up_to (suc m))) ≡ bit (p 1) + length (select (λ k. p (suc k)) (up_to m))
unfolding select up_to
number_low zero p = kept-length (p 1) 1 []
number_low (suc m) p =
    let a = kept-length (p (suc (suc m))) (suc (suc m)) (select p (up_to (suc m))) in
    let b = kept-length (p (suc (suc m))) (suc m) (select (λ k. p (suc k)) (up_to m)) in
    omega (arith, a, b, number_low m p)

frees_number : (m : ℕ) (f : ℕ → Mark) → length (select (λ k. is_free (f k)) (up_to m)) ≡ frees (row m f)
unfolding row frees
frees_number zero f = unfold select up_to in refl
frees_number (suc m) f = number_low m (λ k. is_free (f k)) ∙ ap (λ (n : ℕ). bit (is_free (f 1)) + n) (frees_number m (λ k. f (suc k)))

-- counted in the graph's own words they are those of the first node
pub free_edges_are : (o : Opening) → free_edges o ≡ free_at_start o
unfolding free_edges free_at_start marks_of
free_edges_are o = frees_number o.graph.m (mark_over (ashore o.ashore) (network o.graph))

one_self : (o : Opening) → OneNetwork (network o.graph) (network o.graph)
one_self o = record { n = refl; m = refl; there = λ k i. (k, i, record { a = refl; b = refl; cost = refl; mark = refl }) }

-- ---- what is asked

-- of how answers are said: acceptance is seen, as no refusal of these calls has number 0 or one above 1,000; and so is 'going on'
pub record Seen {A : Type 0} (said : Answer → A) (accepts : A → Bool) : Type 0 where
  pub refusal : (n : ℕ) → 1 ≤ n → n ≤ 1000 → accepts (said (refused n 0)) ≡ false
  pub acceptance : (a : Answer) → is_accepted a ≡ true → accepts (said a) ≡ true
  pub going : (v : Verdict) (n k : ℕ) → said (tells v n) ≡ said (tells going_on k) → v ≡ going_on

-- of the calls: they answer as document 01's machine with its saved states
pub record AsMachine {A : Type 0} (said : Answer → A) (i : Calling A) : Type 0 where
  pub answers : (cs : List AnyCall) (c : AnyCall) → answered i cs c ≡ said (shelf_answer search_machine searches (leaves search_shelved cs) c)
  pub lists : (cs : List AnyCall) (c : AnyCall) → listed i cs c ≡ shelf_lent search_machine searches (leaves search_shelved cs) c

-- ---- the machine's answers

in_thousand : (n : ℕ) → n ∈ (unfit ++ faults) → (1 ≤ n) × (n ≤ 1000)
unfolding every_of
in_thousand n i =
    let b = and_both (leb 1 n) (leb n 1000) (every_of_in (λ k. leb 1 k && leb k 1000) (unfit ++ faults) refl n i) in
    (leb-true 1 n b.0, leb-true n 1000 b.1)

module _ (d : Shelved State) (k : ℕ) where
  save_low : save_fault search_machine searches d k ≤ 1000
  unfolding save_fault
  save_low = go (searches.is_open d.current) (is_name k)
    where
      go : (a b : Bool) → cond (not a) 20 (cond (not b) 33 0) ≤ 1000
      go true true = omega arith
      go true false = omega arith
      go false b = omega arith

  back_low : back_fault search_machine searches d k ≤ 1000
  unfolding back_fault
  back_low = go (is_name k) (searches.is_open (under no_search d.saved k))
    where
      go : (a b : Bool) → cond (not a) 33 (cond (not b) 34 0) ≤ 1000
      go true true = omega arith
      go true false = omega arith
      go false b = omega arith

fine_left : (cs : List AnyCall) → Fine (search_left cs) (history cs)
fine_left cs =
    subst (λ (st : State). Fine st (history cs)) (same-state cs)
    (subst (λ (h : History). Fine (plainly.leaves (path_of cs)) h) (same_past cs) (fine (path_of cs)))

-- ---- what is open

open_is : (st : State) (h : History) → Fine st h → is_open st ≡ is_opened h
open_is no_search no_opening f = refl
open_is no_search (since o total) f = absurd f
open_is (searching p) no_opening f = absurd f
open_is (searching p) (since o total) f = refl

open_left : (cs : List AnyCall) → is_open (search_left cs) ≡ is_opened (history cs)
open_left cs = open_is (search_left cs) (history cs) (fine_left cs)

-- under a name
open_saved : (cs : List AnyCall) (k : ℕ)
    → is_open (under no_search (leaves search_shelved cs).saved k)
    ≡ is_opened (under no_opening (besides search_machine searches note no_opening cs).saved k)
unfolding each paths.history noted
open_saved cs k =
    let p = under [] (paths search_machine searches cs).saved k in
    let a : under no_opening (besides search_machine searches note no_opening cs).saved k ≡ plainly.history p =
    ap (λ (h : Shelved History). under no_opening h.saved k) (histories_are search_machine searches note no_opening cs)
    ∙ under-map (paths.history search_machine searches note no_opening) [] (paths search_machine searches cs).saved k
    ∙ sym (same-history p) in
    ap is_open (saved_is search_machine searches cs k ∙ sym (same-leaves p))
    ∙ open_is (plainly.leaves p) (plainly.history p) (fine p)
    ∙ ap is_opened (sym a)

opens_by : (o : Opening) (n : ℕ) → is_accepted (opened_by o n).answer ≡ is_none n
unfolding opened_by
opens_by o zero = refl
opens_by o (suc n) = refl

-- what an opening, a run, tell and close are accepted for
opens_if : (st : State) (o : Opening) → is_accepted (step st (opens o)).answer ≡ not (is_open st) && is_none (fault o)
unfolding step
opens_if no_search o = opens_by o (fault o)
opens_if (searching p) o = refl

runs_if : (st : State) (budget : ℕ) → is_accepted (step st (run budget)).answer ≡ is_open st
unfolding step run_by
runs_if no_search budget = refl
runs_if (searching p) budget = refl

tells_if : (st : State) → is_accepted (step st tell).answer ≡ is_open st
unfolding step
tells_if no_search = refl
tells_if (searching p) = refl

closes_if : (st : State) → is_accepted (step st close).answer ≡ is_open st
unfolding step
closes_if no_search = refl
closes_if (searching p) = refl

saves_if : (d : Shelved State) (k : ℕ) → is_none (save_fault search_machine searches d k) ≡ is_open d.current && is_name k
unfolding save_fault
saves_if d k = go (is_open d.current) (is_name k)
  where
    go : (a b : Bool) → is_none (cond (not a) 20 (cond (not b) 33 0)) ≡ a && b
    go true true = refl
    go true false = refl
    go false b = refl

backs_if : (d : Shelved State) (k : ℕ) → is_none (back_fault search_machine searches d k) ≡ is_name k && is_open (under no_search d.saved k)
unfolding back_fault
backs_if d k = go (is_name k) (is_open (under no_search d.saved k))
  where
    go : (a b : Bool) → is_none (cond (not a) 33 (cond (not b) 34 0)) ≡ a && b
    go true true = refl
    go true false = refl
    go false b = refl

-- ---- what tell says

going_verdict : (p : Progress) → finished p ≡ false → verdict p ≡ going_on
unfolding verdict
going_verdict p e = rw e refl

settled : (g : Network) (i : Incumbent (List Bool)) → ¬ (verdict_of g i ≡ going_on)
settled g no_tour e = cc
settled g (a_tour r) e = cc

ended_verdict : (p : Progress) → finished p ≡ true → ¬ (verdict p ≡ going_on)
unfolding verdict
ended_verdict p e q = settled (active_network p.opening) p.incumbent (rw e at q)

module _ {A : Type 0} (said : Answer → A) (accepts : A → Bool) (s : Seen said accepts) where
  seen_answer : (a : Answer) → ((n p : ℕ) → a ≡ refused n p → (1 ≤ n) × (n ≤ 1000) × (p ≡ 0)) → accepts (said a) ≡ is_accepted a
  seen_answer (refused n p) h = let r = h n p refl in rw r.2 (s.refusal n r.0 r.1)
  seen_answer accepted h = s.acceptance accepted refl
  seen_answer (runs done count) h = s.acceptance (runs done count) refl
  seen_answer (tells v count) h = s.acceptance (tells v count) refl

  seen_plain : (st : State) (c : Call) → accepts (said (step st c).answer) ≡ is_accepted (step st c).answer
  seen_plain st c =
      seen_answer (step st c).answer
      (λ n p e. let r = refused-leaves st c n p e in let b = in_thousand n r.known in (b.0, b.1, r.nowhere))

  -- a plain call changes the history where it is accepted
  seen_noted : (st : State) (c : Call) (h : Shelved History)
      → noted_if (accepts (said (step st c).answer)) (plain c) h ≡ record { current = note st c h.current; saved = h.saved }
  seen_noted st c h = ap (λ (b : Bool). noted_if b (plain c) h) (seen_plain st c)

  seen_fault : (n : ℕ) → n ≤ 1000 → accepts (said (answer_by search_machine searches n)) ≡ is_none n
  unfolding answer_by
  seen_fault zero h = s.acceptance accepted refl
  seen_fault (suc n) h = s.refusal (suc n) (omega arith) h

  said_accepted : (n : ℕ) → n ≤ 1000 → accepts (said (answer_by search_machine searches n)) ≡ true
      → said (answer_by search_machine searches n) ≡ said accepted
  unfolding answer_by
  said_accepted zero h e = refl
  said_accepted (suc n) h e = absurd (true≢false (sym e ∙ s.refusal (suc n) (omega arith) h))

  -- ---- the histories

  module _ (i : Calling A) (m : AsMachine said i) where
    -- those noted beside the machine's states
    abbrev beside_states : List AnyCall → Shelved History
    beside_states cs = besides search_machine searches note no_opening cs

    seen_next : (cs : List AnyCall) (c : AnyCall)
        → noted_if (accepts (said (shelf_answer search_machine searches (leaves search_shelved cs) c))) c (beside_states cs)
        ≡ beside_next search_machine searches note no_opening (leaves search_shelved cs) (beside_states cs) c
    unfolding shelf_answer beside_next
    seen_next cs (plain c) = seen_noted (leaves search_shelved cs).current c (beside_states cs)
    seen_next cs (save k) =
        ap (λ (b : Bool). noted_if b (save k) (beside_states cs))
        (seen_fault (save_fault search_machine searches (leaves search_shelved cs) k) (save_low (leaves search_shelved cs) k))
    seen_next cs (back k) =
        ap (λ (b : Bool). noted_if b (back k) (beside_states cs))
        (seen_fault (back_fault search_machine searches (leaves search_shelved cs) k) (back_low (leaves search_shelved cs) k))

    noted_next : (cs : List AnyCall) (c : AnyCall)
        → noted_if (accepts (answered i cs c)) c (beside_states cs) ≡ beside_states (cs ++ (c ∷ []))
    noted_next cs c =
        ap (λ (a : A). noted_if (accepts a) c (beside_states cs)) (m.answers cs c)
        ∙ seen_next cs c
        ∙ sym (besides_last search_machine searches note no_opening cs c)

    left_last : (cs : List AnyCall) (c : AnyCall) (r : i.Lent) → left_from i r (cs ++ (c ∷ [])) ≡ i.next (left_from i r cs) c
    unfolding left_from
    left_last [] c r = refl
    left_last (b ∷ cs) c r = left_last cs c (i.next r b)

    folded : (ds cs : List AnyCall)
        → histories_from accepts i (left_from i i.fresh cs) (beside_states cs) ds ≡ beside_states (cs ++ ds)
    unfolding histories_from answered
    folded [] cs = ap beside_states (sym (append-nil cs))
    folded (c ∷ ds) cs =
        ap (λ (h : Shelved History). histories_from accepts i (i.next (left_from i i.fresh cs) c) h ds) (noted_next cs c)
        ∙ ap (λ (r : i.Lent). histories_from accepts i r (beside_states (cs ++ (c ∷ []))) ds) (sym (left_last cs c i.fresh))
        ∙ folded ds (cs ++ (c ∷ []))
        ∙ ap beside_states (append_assoc cs (c ∷ []) ds)

    -- THE HISTORIES READ OFF THE ANSWERS are those noted beside the machine's states
    pub histories_seen : (cs : List AnyCall) → histories accepts i cs ≡ beside_states cs
    unfolding histories left_from besides beside
    histories_seen cs = folded cs []

    current_is : (cs : List AnyCall) → history cs ≡ (histories accepts i cs).current
    unfolding history
    current_is cs = ap (λ (h : Shelved History). h.current) (sym (histories_seen cs))

    open_now : (cs : List AnyCall) → is_open (search_left cs) ≡ is_opened (histories accepts i cs).current
    open_now cs = open_left cs ∙ ap is_opened (current_is cs)

    -- WHICH CALLS ARE ACCEPTED
    pub taken : Acceptance accepts i
    unfolding shelf_answer
    taken cs (plain (opens o)) =
        ap accepts (m.answers cs (plain (opens o)))
        ∙ seen_plain (search_left cs) (opens o)
        ∙ opens_if (search_left cs) o
        ∙ ap (λ (b : Bool). not b && is_none (fault o)) (open_now cs)
    taken cs (plain (run budget)) =
        ap accepts (m.answers cs (plain (run budget))) ∙ seen_plain (search_left cs) (run budget) ∙ runs_if (search_left cs) budget ∙ open_now cs
    taken cs (plain tell) = ap accepts (m.answers cs (plain tell)) ∙ seen_plain (search_left cs) tell ∙ tells_if (search_left cs) ∙ open_now cs
    taken cs (plain (plainly.show l)) = tt
    taken cs (plain close) = ap accepts (m.answers cs (plain close)) ∙ seen_plain (search_left cs) close ∙ closes_if (search_left cs) ∙ open_now cs
    taken cs (save k) =
        ap accepts (m.answers cs (save k))
        ∙ seen_fault (save_fault search_machine searches (leaves search_shelved cs) k) (save_low (leaves search_shelved cs) k)
        ∙ saves_if (leaves search_shelved cs) k
        ∙ ap (λ (b : Bool). b && is_name k) (open_now cs)
    taken cs (back k) =
        ap accepts (m.answers cs (back k))
        ∙ seen_fault (back_fault search_machine searches (leaves search_shelved cs) k) (back_low (leaves search_shelved cs) k)
        ∙ backs_if (leaves search_shelved cs) k
        ∙ ap (λ (b : Bool). is_name k && b)
        (open_saved cs k ∙ ap (λ (h : Shelved History). is_opened (under no_opening h.saved k)) (sym (histories_seen cs)))

    opened_is : (cs : List AnyCall) (o : Opening) (total : ℕ) → OpenedBy accepts i cs o total → history cs ≡ since o total
    opened_is cs o total e = current_is cs ∙ e

    -- ---- finished

    told : (cs : List AnyCall) (p : Progress) → search_left cs ≡ searching p → answered i cs (plain tell) ≡ said (tells (verdict p) p.count)
    unfolding shelf_answer step
    told cs p e = m.answers cs (plain tell) ∙ ap (λ (st : State). said (step st tell).answer) e

    ended_finished : (cs : List AnyCall) (o : Opening) (total : ℕ) → history cs ≡ since o total → Ended said i cs → Finished (search_left cs)
    ended_finished cs o total e ended = go (search_left cs) refl (subst (λ (h : History). Fine (search_left cs) h) e (fine_left cs))
      where
        go : (st : State) → search_left cs ≡ st → Fine st (since o total) → Finished st
        go no_search q f = absurd f
        go (searching p) q f =
            by_cases (finished p) (λ y. y)
            (λ n. absurd (ended p.count (told cs p q ∙ ap (λ (v : Verdict). said (tells v p.count)) (going_verdict p n))))

    finished_ended : (cs : List AnyCall) → Finished (search_left cs) → Ended said i cs
    finished_ended cs done count e = go (search_left cs) refl done
      where
        go : (st : State) → search_left cs ≡ st → Finished st → ⊥
        go no_search q f = f
        go (searching p) q f = ended_verdict p f (s.going (verdict p) p.count count (sym (told cs p q) ∙ e))

    leaves_finished : (cs : List AnyCall) (o : Opening) (total : ℕ) → OpenedBy accepts i cs o total → Ended said i cs
        → LeavesFinished cs o
    leaves_finished cs o total e ended = record {
      total = total;
      opened = opened_is cs o total e;
      done = ended_finished cs o total (opened_is cs o total e) ended;
    }

    -- ---- the verdicts

    module _ (demand : Demand3 said) where
      same_answer : (cs : List AnyCall) (c : AnyCall) → (calls_said said).answer (record_of (calls_said said) cs) c ≡ answered i cs c
      same_answer cs c = (demand.equal cs).answered c ∙ sym (m.answers cs c)

      same_list : (cs : List AnyCall) (c : AnyCall) → (calls_said said).list (record_of (calls_said said) cs) c ≡ listed i cs c
      same_list cs c = (demand.equal cs).listed c ∙ sym (m.lists cs c)

      says : (cs : List AnyCall) (o : Opening) (v : Verdict) → SaysAfter said cs o v → SaysNext said i cs o v
      says cs o v x =
          subst (λ (q : (Call → A) × (Call → List ℕ)). Says said q.0 q.1 o v)
          (λ j. ((λ c. same_answer cs (plain c) j), (λ c. same_list cs (plain c) j))) x

      show_alike : (cs ds : List AnyCall) → ShowAlikeAfter said cs ds → ShowsAlike said i cs ds
      show_alike cs ds h l = (
        sym (same_answer cs (plain (plainly.show l))) ∙ (h l).0 ∙ same_answer ds (plain (plainly.show l)),
        sym (same_list cs (plain (plainly.show l))) ∙ (h l).1 ∙ same_list ds (plain (plainly.show l)),
      )

      finishes : (cs : List AnyCall) (o : Opening) (total : ℕ) → OpenedBy accepts i cs o total
          → free_edges o ≤ 62 → 2 ^ suc (free_edges o) - 1 ≤ total → Ended said i cs
      finishes cs o total e few enough =
          finished_ended cs
          (subst Finished (ap (λ (d : Shelved State). d.current) (demand.equal cs).holds)
          (demand.ends cs o total (opened_is cs o total e)
          (subst (λ (k : ℕ). k ≤ 62) (free_edges_are o) few)
          (subst (λ (k : ℕ). 2 ^ suc k - 1 ≤ total) (free_edges_are o) enough)))

      as_saved : (cs : List AnyCall) (k : ℕ) → accepts (answered i cs (back k)) ≡ true → AsSaved accepts i cs k
      unfolding shelf_answer answer_on list_on
      as_saved cs k e = (
        r.before,
        r.since,
        r.split,
        ap accepts (sym (same_answer r.before (save k)) ∙ r.accepted) ∙ s.acceptance accepted refl,
        (λ ds es q. refuses (r.before ++ (save k ∷ ds)) (r.latest ds es q)),
        (λ c. (
          sym (same_answer (cs ++ (back k ∷ [])) (plain c))
              ∙ ap (λ (x : Search). (search_calls said).answer x c) r.same
              ∙ same_answer r.before (plain c),
          sym (same_list (cs ++ (back k ∷ [])) (plain c))
              ∙ ap (λ (x : Search). (search_calls said).list x c) r.same
              ∙ same_list r.before (plain c),
        )),
      )
        where
          r : Restored searches (search_calls said) cs k
          r = demand.restores cs k
              ((demand.equal cs).answered (back k)
              ∙ said_accepted (back_fault search_machine searches (leaves search_shelved cs) k) (back_low (leaves search_shelved cs) k)
              (ap accepts (sym (m.answers cs (back k))) ∙ e))

          refuses : (xs : List AnyCall) → ¬ ((calls_said said).answer (record_of (calls_said said) xs) (save k) ≡ said accepted)
              → accepts (answered i xs (save k)) ≡ false
          refuses xs n =
              by_cases (accepts (answered i xs (save k)))
              (λ y. absurd (n ((demand.equal xs).answered (save k)
              ∙ said_accepted (save_fault search_machine searches (leaves search_shelved xs) k) (save_low (leaves search_shelved xs) k)
              (ap accepts (sym (m.answers xs (save k))) ∙ y))))
              (λ y. y)

      -- OF ANY CALLS that answer as the machine does
      pub verdicts_of : Verdicts said accepts i
      verdicts_of = record {
        right = λ cs o total e ended.
            let l = leaves_finished cs o total e ended in
            let a = demand.agree cs cs o o l l (one_self o) refl refl in
            (a.0, says cs o a.0 a.1);
        ends = finishes;
        agree = λ cs ds o p x y e ended f over one inactive same.
            let a = demand.agree cs ds o p (leaves_finished cs o x e ended) (leaves_finished ds p y f over) one inactive same in
            (a.0, says cs o a.0 a.1, says ds p a.0 a.2, λ alike. show_alike cs ds (a.3 alike));
        restores = as_saved;
      }

-- ---- of any interface of the machine

abbrev pub calling_of : (j : Interface search_shelved) → Calling j.Reply
calling_of j = record { Lent = j.Lent; fresh = j.fresh; next = j.next; answer = j.answer; list = j.list }

module _ (j : Interface search_shelved) where
  interface_left : (cs : List AnyCall) (r : j.Lent) → left_from (calling_of j) r cs ≡ record_after j r cs
  unfolding left_from record_after
  interface_left [] r = refl
  interface_left (c ∷ cs) r = interface_left cs (j.next r c)

  pub interface_as_machine : ((cs : List AnyCall) → AsTheMachine j cs) → AsMachine j.said (calling_of j)
  unfolding answered listed record_of
  interface_as_machine equal = record {
    answers = λ cs c. ap (λ (r : j.Lent). j.answer r c) (interface_left cs j.fresh) ∙ (equal cs).answered c;
    lists = λ cs c. ap (λ (r : j.Lent). j.list r c) (interface_left cs j.fresh) ∙ (equal cs).listed c;
  }

-- ---- the calls as their contracts name them

module _ {A : Type 0} (f : Answer → A) where
  abbrev tied : Lent → Shelved Search
  tied r = both r.search r.shelf

  tied_next : (r : Lent) (c : AnyCall) → tied (leaves_both r c) ≡ next_on searches (search_calls f) (tied r) c
  unfolding save_reply back_reply next_on
  tied_next r (plain c) = refl
  tied_next r (save k) = go (is_none (save_fault_on searches (search_calls f) (tied r) k))
    where
      go : (b : Bool) → record { current = r.search; saved = (saves (tied r) k b).saved } ≡ saves (tied r) k b
      go true = refl
      go false = refl
  tied_next r (back k) = go (is_none (back_fault_on searches (search_calls f) (tied r) k))
    where
      go : (b : Bool) → record { current = (brings fresh (tied r) k b).current; saved = r.shelf.places } ≡ brings fresh (tied r) k b
      go true = refl
      go false = refl

  tied_answer : (r : Lent) (c : AnyCall) → f (answer_of r c) ≡ answer_on searches (search_calls f) (tied r) c
  unfolding save_reply back_reply answer_on
  tied_answer r (plain c) = refl
  tied_answer r (save k) = refl
  tied_answer r (back k) = refl

  tied_list : (r : Lent) (c : AnyCall) → list_of r c ≡ list_on searches (search_calls f) (tied r) c
  unfolding list_on
  tied_list r (plain c) = refl
  tied_list r (save k) = refl
  tied_list r (back k) = refl

  tied_after : (cs : List AnyCall) (r : Lent) → tied (left_from (calls f) r cs) ≡ record_after (calls_said f) (tied r) cs
  unfolding left_from record_after
  tied_after [] r = refl
  tied_after (c ∷ cs) r = tied_after cs (leaves_both r c) ∙ ap (λ (q : Shelved Search). record_after (calls_said f) q cs) (tied_next r c)

  tied_left : (cs : List AnyCall) → tied (left_from (calls f) (calls f).fresh cs) ≡ record_of (calls_said f) cs
  unfolding record_of fresh_shelf cleared
  tied_left cs = tied_after cs (calls f).fresh

  pub calls_as_machine : Demand3 f → AsMachine f (calls f)
  unfolding answered listed
  calls_as_machine demand = record {
    answers = λ cs c.
        tied_answer (left_from (calls f) (calls f).fresh cs) c
        ∙ ap (λ (q : Shelved Search). answer_on searches (search_calls f) q c) (tied_left cs)
        ∙ (demand.equal cs).answered c;
    lists = λ cs c.
        tied_list (left_from (calls f) (calls f).fresh cs) c
        ∙ ap (λ (q : Shelved Search). list_on searches (search_calls f) q c) (tied_left cs)
        ∙ (demand.equal cs).listed c;
  }

  -- of demand 3's own calls, and of the contracts', however the answers are said
  pub verdicts_interface : (accepts : A → Bool) → Seen f accepts → Demand3 f → Verdicts f accepts (calling_of (calls_said f))
  verdicts_interface accepts s demand = verdicts_of f accepts s (calling_of (calls_said f)) (interface_as_machine (calls_said f) demand.equal) demand

  pub verdicts_said : (accepts : A → Bool) → Seen f accepts → Demand3 f → Verdicts f accepts (calls f)
  verdicts_said accepts s demand = verdicts_of f accepts s (calls f) (calls_as_machine demand) demand

  pub acceptance_said : (accepts : A → Bool) → Seen f accepts → Demand3 f → Acceptance accepts (calls f)
  acceptance_said accepts s demand = taken f accepts s (calls f) (calls_as_machine demand)

-- THE VERDICTS OF THE CALLS of crate search and of this crate, and which of these are accepted
seen_plainly : Seen {A = Answer} (λ a. a) (λ a. is_accepted a)
seen_plainly = record { refusal = λ n low high. refl; acceptance = λ a h. h; going = λ v n k e. cc }

pub verdicts : Verdicts {A = Answer} (λ a. a) (λ a. is_accepted a) (calls {A = Answer} (λ a. a))
verdicts = verdicts_said {A = Answer} (λ a. a) (λ a. is_accepted a) seen_plainly demand_3

pub acceptance : Acceptance {A = Answer} (λ a. is_accepted a) (calls {A = Answer} (λ a. a))
acceptance = acceptance_said {A = Answer} (λ a. a) (λ a. is_accepted a) seen_plainly demand_3
