-- The replies, case by case, as the code of the calls goes: from what is seen of the places to what the dispatcher's machine does. Assumes
-- nothing.
use Rattle.std.proofs.Math.Path.{◌≡◌, refl, sym, ap}
use Rattle.std.proofs.Common.{◌∙◌, subst, ne_eqb, le-leb, leb-true, true≢false}
use Rattle.std.proofs.lemmas.Bool.{lt-leb}
use Rattle.std.proofs.lemmas.List.{get_or_default, set-get_or}
use Rattle.std.proofs.lemmas.List.Elements.{recursion_from_All}
use Rattle.std.proofs.lemmas.List.Sums.{AllPass-from_list_all}
use Rattle.std.specs.Prelude.{Bool, ◌&&◌, None}
use Rattle.std.specs.List.{list_all, AllPass}
use Rattle.std.proofs.Math.Bool.{true, false, not, cond}
use mathlib.Core.List.{List, map}
use Prim.Native.Nat.{ℕ, zero, suc, ◌+◌, ◌≤◌, ◌<◌}
use native.Mathlib.Omega.{arith}
use Rattle.std.proofs.Math.Dec.{eqb, leb}
use Rattle.std.proofs.Math.ListN.{get_or, set, length-map, get_or-map}
use Rattle.lists.specs.Bools.{by_cases, and_both, and_no_right}
use Rattle.graph.specs.declared.refusals.Refusal.{Refusal}
use Rattle.graph.specs.Refusals.{number, positive}
use Rattle.machine.specs.Machine.{Opening, State, no_search, searching, finished}
use Rattle.machine.specs.Calls as calls
use Rattle.machine.specs.Calls.{refused, tell, step}
use Rattle.machine.specs.Refusals.{refused-leaves}
use Rattle.search.specs.Record.{fresh, decode, encode}
use Rattle.search.specs.Check.{check}
use Rattle.search.specs.Replies as search
use Rattle.search.specs.Seen.{Again}
use Rattle.search.specs.Seen.{state_of as seen_of}
use Rattle.search.specs.Seen.{state_in as seen_in}
use Rattle.search.specs.declared.Search.{Search}
use Rattle.search.specs.declared.State.{State as Seen}
use Rattle.search.specs.declared.State.TheVariants.{Broken, Empty, Waiting}
use Rattle.lent_records.specs.Places.{is_name, place_of, place_none, under, put, under-map, map-put}
use Rattle.lent_records.specs.Every.{every_back}
use Rattle.lent_records.specs.Records as records
use Rattle.lent_records.specs.Records.{lent_on}
use Rattle.search_records.specs.Seen as broken
use Rattle.search_records.specs.Seen.{kind, kind-injective, passing_state, open_is, any_broken, any_seen, all_whole}
use Rattle.dispatch_theory.specs.Dispatcher as theory
use Rattle.dispatch_theory.specs.Dispatcher.{DispatchCall, Response, placed, served, idle, said, add, turn, tell_at, show_at, close_at, Route, nowhere, to, following, first_after}
use Rattle.dispatch_theory.specs.Dispatcher.{state_at, is_held, waits, free_place, next_place, place_fault, routed, places_by, last_by, dispatch_next, dispatch_answer, dispatch_lent}
use Rattle.dispatch_theory.specs.Alone.{following_range, first_range}
use Rattle.dispatch_theory.specs.Fairness.{still}
use Rattle.dispatch_theory.specs.Records.{encode_all, decode_all, check_all}
use Rattle.dispatcher.specs.Searches.{machine, held, made, codec}
use Rattle.dispatcher.specs.Replies.{Call, Outcome, form, refuses, reply, lent}
use Rattle.dispatcher.specs.Seen.{is_at, any_seen_broken, Laid, passes, state, held_fault}
use Rattle.dispatcher.specs.Steady.{steady}
use Rattle.dispatcher.specs.declared.Dispatcher.{Dispatcher}

-- ---- one place, by what its record is seen to hold

-- the search's call, where its record passes its check, and where it does not
pub answer_is : (s : Search) (c : calls.Call) → check s ≡ true → (search.reply s c).answer ≡ (step (decode s) c).answer
unfolding search.reply
answer_is s c e = rw e

left_is : (s : Search) (c : calls.Call) → check s ≡ true → (search.reply s c).search ≡ encode (step (decode s) c).state
unfolding search.reply
left_is s c e = rw e

list_is : (s : Search) (c : calls.Call) → check s ≡ true → search.lent s c ≡ (step (decode s) c).lent
unfolding search.lent
list_is s c e = rw e

seen_waits : (st : State) → held.is_open st && not (made.finished st) ≡ eqb (kind (seen_of st)) 2
seen_waits no_search = refl
seen_waits (searching p) = by_cases (finished p) (λ f. rw f) (λ f. rw f)

-- two tests that agree on the places find the same
first-same : (t u : ℕ → Bool) → ((i : ℕ) → 1 ≤ i → i ≤ 8 → t i ≡ u i) → (n l : ℕ) → first_after t n l ≡ first_after u n l
unfolding first_after
first-same t u h zero l = refl
first-same t u h (suc n) l =
    let r = following_range l in
    rw (h (following l) r.0 r.1, first-same t u h n (following l))

pub not_found : (t : ℕ → Bool) (l : ℕ) → None ≡ place_of (first_after t 8 l) → first_after t 8 l ≡ 0
not_found t l e = go (first_after t 8 l) (first_range t 8 l) (place_none (first_after t 8 l) e)
  where
    go : (k : ℕ) → k ≤ 8 → is_name k ≡ false → k ≡ 0
    go zero h n = refl
    go (suc k) h n = absurd (true≢false (sym (rw (le-leb 1 (suc k) (omega arith), le-leb (suc k) 8 h)) ∙ n))

decode-fresh : decode fresh ≡ no_search
unfolding decode fresh
decode-fresh = refl

-- ---- 24

module _ (d : Dispatcher) where
  pub passes_is : passes d ≡ leb d.last 8 && list_all check d.places
  unfolding check_all
  passes_is = refl

  -- by what is seen of the places
  pub last-high : 8 < d.last → passes d ≡ false
  last-high l = passes_is ∙ rw (lt-leb d.last 8 l)

  module _ (seen : List Seen) (s : seen ≡ map seen_in d.places) where
    broken_is : any_seen_broken seen ≡ any_broken d.places
    broken_is = ap any_seen_broken s ∙ any_seen d.places

    pub one_broken : any_seen_broken seen ≡ true → passes d ≡ false
    one_broken t = passes_is ∙ and_no_right (leb d.last 8) (list_all check d.places) (broken.one_broken d.places (sym broken_is ∙ t))

    pub none_broken : d.last ≤ 8 → any_seen_broken seen ≡ false → passes d ≡ true
    none_broken l t = passes_is ∙ rw (le-leb d.last 8 l) (all_whole d.places (sym broken_is ∙ t))

  module _ (e : passes d ≡ false) where
    pub reply_24 : (c : Call) → refuses d 24 ≡ reply d c
    unfolding reply records.reply
    reply_24 c = rw e

    pub lent_24 : (i : ℕ) (l : List ℕ) → l ≡ lent d (show_at i l)
    unfolding lent lent_on theory.dispatch_given
    lent_24 i l = rw e

    pub held_24 : (i : ℕ) → held_fault d i ≡ 24
    unfolding held_fault
    held_24 i = rw e

module _ (d : Dispatcher) (h : Laid d) (e : passes d ≡ true) where
  parts : (leb d.last 8 ≡ true) × (list_all check d.places ≡ true)
  parts = and_both (leb d.last 8) (list_all check d.places) (sym (passes_is d) ∙ e)

  pub last_low : d.last ≤ 8
  last_low = leb-true d.last 8 parts.0

  all_pass : AllPass check d.places
  all_pass = AllPass-from_list_all check d.places parts.1

  pub place-passes : (i : ℕ) → i < 8 → check (under fresh d.places (suc i)) ≡ true
  unfolding under
  place-passes i b = all_pass i fresh (omega (arith, h.eight))

  places_back : map encode (map decode d.places) ≡ d.places
  places_back =
      every_back (λ s. Again s × (check s ≡ true)) decode encode (λ s g. g.0 g.1) d.places
      (recursion_from_All (λ s. Again s × (check s ≡ true)) d.places (λ i z b. (h.again i z b, all_pass i z b)))

  state_is : (i : ℕ) → state_at machine held made (state d) i ≡ decode (under fresh d.places i)
  unfolding state_at decode_all
  state_is i =
      ap (λ (z : State). under z (map decode d.places) i) (sym decode-fresh) ∙ under-map decode fresh d.places i

  -- ---- what is seen

  module _ (seen : List Seen) (s : seen ≡ map seen_in d.places) where
    seen_is : (i : ℕ) → 1 ≤ i → i ≤ 8 → under Broken seen i ≡ seen_of (state_at machine held made (state d) i)
    unfolding under
    seen_is zero a b = absurd (omega arith)
    seen_is (suc i) a b =
        ap (λ (l : List Seen). get_or l i Broken) s
        ∙ get_or_default (map seen_in d.places) i Broken (seen_in fresh) (omega (arith, length-map d.places seen_in, h.eight))
        ∙ get_or-map seen_in d.places i fresh
        ∙ passing_state (get_or d.places i fresh) (all_pass i fresh (omega (arith, h.eight)))
        ∙ ap seen_of (sym (state_is (suc i)))

    held_is : (i : ℕ) → 1 ≤ i → i ≤ 8 → is_held machine held made (state d) i ≡ not (is_at seen Empty i)
    unfolding is_held
    held_is i a b =
        open_is (state_at machine held made (state d) i) ∙ ap (λ (x : Seen). not (eqb (kind x) 1)) (sym (seen_is i a b))

    waits_is : (i : ℕ) → 1 ≤ i → i ≤ 8 → waits machine held made (state d) i ≡ is_at seen Waiting i
    unfolding waits is_held
    waits_is i a b = seen_waits (state_at machine held made (state d) i) ∙ ap (λ (x : Seen). eqb (kind x) 2) (sym (seen_is i a b))

    pub free_is : free_place machine held made (state d) ≡ first_after (is_at seen Empty) 8 0
    unfolding free_place
    free_is =
        first-same (λ i. not (is_held machine held made (state d) i)) (is_at seen Empty)
        (λ i a b. ap not (held_is i a b) ∙ twice (is_at seen Empty i)) 8 0
      where
        twice : (b : Bool) → not (not b) ≡ b
        twice true = refl
        twice false = refl

    pub next_is : next_place machine held made (state d) ≡ first_after (is_at seen Waiting) 8 d.last
    unfolding next_place decode_all
    next_is = first-same (waits machine held made (state d)) (is_at seen Waiting) waits_is 8 d.last

    -- the fault of a place that is one, by what stands there
    fault_by : (i : ℕ) (b : Bool) → i < 8 → is_at seen Empty (suc i) ≡ b → held_fault d (suc i) ≡ cond b 20 0
    unfolding held_fault place_fault
    fault_by i b l a = rw (e, named i l, held_is (suc i) (omega arith) (omega arith), a) (twice b)
      where
        named : (i : ℕ) → i < 8 → is_name (suc i) ≡ true
        named i l = rw (le-leb 1 (suc i) (omega arith), le-leb (suc i) 8 (omega arith))

        twice : (b : Bool) → ◌≡◌ {A = ℕ} (cond (not (not b)) 20 0) (cond b 20 0)
        twice true = refl
        twice false = refl

    module _ (k i : ℕ) (n : k ≡ suc i) (b : i < 8) where
      pub fault_20 : get_or seen i Broken ≡ Empty → held_fault d k ≡ 20
      unfolding under
      fault_20 h = rw n (fault_by i true b (ap (λ (x : Seen). eqb (kind x) 1) h))

      pub fault_0 : ¬ (get_or seen i Broken ≡ Empty) → held_fault d k ≡ 0
      unfolding under
      fault_0 h = rw n (fault_by i false b (ne_eqb (kind (get_or seen i Broken)) 1 (λ e. h (kind-injective (get_or seen i Broken) Empty e))))

  pub fault_42 : (i : ℕ) → is_name i ≡ false → held_fault d i ≡ 42
  unfolding held_fault place_fault
  fault_42 i n = rw (e, n)

  fault_is : (i : ℕ) → held_fault d i ≡ place_fault machine held made (state d) i
  unfolding held_fault
  fault_is i = rw e

  -- ---- one call

  abbrev made_of : theory.Dispatcher State → Dispatcher
  made_of t = encode_all held made codec form t

  reply_is : (c : Call)
      → reply d c ≡ record { dispatcher = made_of (dispatch_next machine held made (state d) c); answer = dispatch_answer machine held made (state d) c }
  unfolding reply records.reply
  reply_is c = rw e

  lent_is : (c : Call) → lent d c ≡ dispatch_lent machine held made (state d) c
  unfolding lent lent_on
  lent_is c = rw e

  all_back : made_of (state d) ≡ d
  unfolding encode_all decode_all
  all_back = λ i. record { last = d.last; places = places_back i }

  -- a call that leaves the dispatcher
  stays : (c : Call) (a : Response calls.Answer) → dispatch_next machine held made (state d) c ≡ state d → dispatch_answer machine held made (state d) c ≡ a
      → reply d c ≡ record { dispatcher = d; answer = a }
  stays c a n s = reply_is c ∙ (λ i. record { dispatcher = (ap made_of n ∙ all_back) i; answer = s i })

  to_nowhere : (c : Call) → routed machine held made (state d) c ≡ nowhere → dispatch_next machine held made (state d) c ≡ state d
  unfolding dispatch_next places_by last_by
  to_nowhere (add a) r = λ i. record { places = ap (places_by machine held made (state d)) r i; last = (state d).last }
  to_nowhere (turn p) r =
      ap (λ (q : Route calls.Call). record { places = places_by machine held made (state d) q; last = last_by machine held made (state d).last (turn p) q }) r
  to_nowhere (tell_at k) r = λ i. record { places = ap (places_by machine held made (state d)) r i; last = (state d).last }
  to_nowhere (show_at k l) r = λ i. record { places = ap (places_by machine held made (state d)) r i; last = (state d).last }
  to_nowhere (close_at k) r = λ i. record { places = ap (places_by machine held made (state d)) r i; last = (state d).last }

  -- what stands at a place, whatever stands past the eight
  element : (i : ℕ) (z : Search) → i < 8 → get_or d.places i z ≡ under fresh d.places (suc i)
  unfolding under
  element i z b = get_or_default d.places i z fresh (omega (arith, h.eight))

  -- the call of the search at a place: its answer, its record and its list
  module _ (i : ℕ) (b : i < 8) (c : calls.Call) (z : Search) where
    abbrev there : search.Outcome
    there = search.reply (get_or d.places i z) c

    called : there ≡ search.reply (under fresh d.places (suc i)) c
    called = ap (λ (s : Search). search.reply s c) (element i z b)

    answered : there.answer ≡ (step (state_at machine held made (state d) (suc i)) c).answer
    answered =
        ap (λ (x : search.Outcome). x.answer) called
        ∙ answer_is (under fresh d.places (suc i)) c (place-passes i b)
        ∙ ap (λ (t : State). (step t c).answer) (sym (state_is (suc i)))

    left : there.search ≡ encode (step (state_at machine held made (state d) (suc i)) c).state
    left =
        ap (λ (x : search.Outcome). x.search) called
        ∙ left_is (under fresh d.places (suc i)) c (place-passes i b)
        ∙ ap (λ (t : State). encode (step t c).state) (sym (state_is (suc i)))

    listed : search.lent (get_or d.places i z) c ≡ (step (state_at machine held made (state d) (suc i)) c).lent
    listed =
        ap (λ (s : Search). search.lent s c) (element i z b)
        ∙ list_is (under fresh d.places (suc i)) c (place-passes i b)
        ∙ ap (λ (t : State). (step t c).lent) (sym (state_is (suc i)))

    -- a call that goes to the place
    goes : (x : Call) (q : Response calls.Answer) → routed machine held made (state d) x ≡ to (suc i) c → dispatch_answer machine held made (state d) x ≡ q
        → reply d x
        ≡ record { dispatcher = record { last = last_by machine held made d.last x (to (suc i) c); places = set d.places i there.search }; answer = q }
    unfolding encode_all decode_all dispatch_next places_by put
    goes x q r s = reply_is x ∙ (λ j. record {
      dispatcher = record { last = last_by machine held made d.last x (r j); places = stored j };
      answer = s j;
    })
      where
        stored : map encode (places_by machine held made (state d) (routed machine held made (state d) x)) ≡ set d.places i there.search
        stored =
            ap (λ (t : Route calls.Call). map encode (places_by machine held made (state d) t)) r
            ∙ map-put encode (map decode d.places) (suc i) (step (state_at machine held made (state d) (suc i)) c).state
            ∙ (λ j. put (places_back j) (suc i) (sym left j))

    -- a refusal there leaves it
    stands : (n p : ℕ) → there.answer ≡ refused n p → set d.places i there.search ≡ d.places
    stands n p r =
        let s = get_or d.places i z in
        let pass = all_pass i z (omega (arith, h.eight)) in
        let same = (refused-leaves (decode s) c n p (sym (answer_is s c pass) ∙ r)).state in
        let again = h.again i z (omega (arith, h.eight)) pass in
        ap (λ (t : Search). set d.places i t) (left_is s c pass ∙ ap encode same ∙ again) ∙ set-get_or d.places i z

  -- ---- turn

  pub turn_40 : (p : ℕ) → p ≡ 0 → refuses d 40 ≡ reply d (turn p)
  turn_40 zero f =
      sym (stays (turn 0) (said (refused 40 0)) (to_nowhere (turn 0) (unfold routed theory.turn_route in refl)) (unfold dispatch_answer theory.turn_answer in refl))
  turn_40 (suc p) f = absurd (let z : suc p ≡ 0 = f in omega arith)

  pub turn_idle : (p : ℕ) → ¬ (p ≡ 0) → next_place machine held made (state d) ≡ 0 → record { dispatcher = d; answer = idle } ≡ reply d (turn p)
  turn_idle zero f n = absurd (f refl)
  turn_idle (suc p) f n =
      sym (stays (turn (suc p)) idle (to_nowhere (turn (suc p)) (unfold routed theory.turn_route in rw n))
      (unfold dispatch_answer theory.turn_answer in rw n))

  pub turn_done : (p i : ℕ) (z : Search) → i < 8 → ¬ (p ≡ 0) → next_place machine held made (state d) ≡ suc i
      → record { dispatcher = record { last = suc i; places = set d.places i (search.reply (get_or d.places i z) (calls.run p)).search }; answer = served (suc i) }
      ≡ reply d (turn p)
  unfolding last_by
  turn_done zero i z b f next = absurd (f refl)
  turn_done (suc p) i z b f next =
      sym (goes i b (calls.run (suc p)) z (turn (suc p)) (served (suc i))
      (unfold routed theory.turn_route in rw next) (unfold dispatch_answer theory.turn_answer in rw next))

  pub turn_served : (p i : ℕ) (z : Search) → i < 8 → ¬ (p ≡ 0) → next_place machine held made (state d) ≡ suc i
      → record { dispatcher = record { last = i + 1; places = set d.places i (search.reply (get_or d.places i z) (calls.run p)).search }; answer = served (i + 1) }
      ≡ reply d (turn p)
  turn_served p i z b f next =
      ap (λ (k : ℕ). with_last k) (omega arith) ∙ turn_done p i z b f next
    where
      with_last : ℕ → Outcome
      with_last k = record { dispatcher = record { last = k; places = set d.places i (search.reply (get_or d.places i z) (calls.run p)).search }; answer = served k }

  -- ---- add

  pub add_41 : (a : Opening) → free_place machine held made (state d) ≡ 0 → refuses d 41 ≡ reply d (add a)
  add_41 a full =
      sym (stays (add a) (said (refused 41 0)) (to_nowhere (add a) (unfold routed theory.add_route in rw full))
      (unfold dispatch_answer theory.add_answer in rw full))

  module _ (a : Opening) (i : ℕ) (z : Search) (b : i < 8) (free : free_place machine held made (state d) ≡ suc i) where
    taken : calls.is_accepted (step (state_at machine held made (state d) (suc i)) (calls.opens a)).answer
        ≡ calls.is_accepted (search.reply (get_or d.places i z) (calls.opens a)).answer
    taken = ap calls.is_accepted (sym (answered i b (calls.opens a) z))

    refused_there : calls.is_accepted (search.reply (get_or d.places i z) (calls.opens a)).answer ≡ false
        → record { dispatcher = d; answer = said (search.reply (get_or d.places i z) (calls.opens a)).answer } ≡ reply d (add a)
    refused_there f =
        sym (stays (add a) (said (search.reply (get_or d.places i z) (calls.opens a)).answer)
        (to_nowhere (add a) (unfold routed theory.add_route in rw (free, taken, f)))
        (unfold dispatch_answer theory.add_answer in rw (free, taken, f) (ap said (sym (answered i b (calls.opens a) z)))))

    pub add_turned : (n p : ℕ) → refused n p ≡ (search.reply (get_or d.places i z) (calls.opens a)).answer
        → record { dispatcher = record { last = d.last; places = set d.places i (search.reply (get_or d.places i z) (calls.opens a)).search }; answer = said (refused n p) }
        ≡ reply d (add a)
    add_turned n p r =
        (λ j. record { dispatcher = record { last = d.last; places = stands i b (calls.opens a) z n p (sym r) j }; answer = said (r j) })
        ∙ refused_there (ap calls.is_accepted (sym r))

    pub add_done : calls.is_accepted (search.reply (get_or d.places i z) (calls.opens a)).answer ≡ true
        → record { dispatcher = record { last = d.last; places = set d.places i (search.reply (get_or d.places i z) (calls.opens a)).search }; answer = placed (suc i) }
        ≡ reply d (add a)
    unfolding last_by
    add_done f =
        sym (goes i b (calls.opens a) z (add a) (placed (suc i)) (unfold routed theory.add_route in rw (free, taken, f))
        (unfold dispatch_answer theory.add_answer in rw (free, taken, f)))

    pub add_placed : calls.is_accepted (search.reply (get_or d.places i z) (calls.opens a)).answer ≡ true
        → record { dispatcher = record { last = d.last; places = set d.places i (search.reply (get_or d.places i z) (calls.opens a)).search }; answer = placed (i + 1) }
        ≡ reply d (add a)
    add_placed f = ap (λ (k : ℕ). with_place k) (omega arith) ∙ add_done f
      where
        with_place : ℕ → Outcome
        with_place k = record { dispatcher = record { last = d.last; places = set d.places i (search.reply (get_or d.places i z) (calls.opens a)).search }; answer = placed k }

  -- ---- at a place

  -- 42 and 20
  module _ (k f : ℕ) (g : held_fault d k ≡ suc f) where
    at-fault : place_fault machine held made (state d) k ≡ suc f
    at-fault = sym (fault_is k) ∙ g

    tell_faulty : refuses d (suc f) ≡ reply d (tell_at k)
    tell_faulty =
        sym (stays (tell_at k) (said (refused (suc f) 0)) (to_nowhere (tell_at k) (unfold routed theory.place_route in rw at-fault))
        (unfold dispatch_answer theory.place_answer in rw at-fault))

    close_faulty : refuses d (suc f) ≡ reply d (close_at k)
    close_faulty =
        sym (stays (close_at k) (said (refused (suc f) 0)) (to_nowhere (close_at k) (unfold routed theory.place_route in rw at-fault))
        (unfold dispatch_answer theory.place_answer in rw at-fault))

    show_faulty : (l : List ℕ) → (refuses d (suc f) ≡ reply d (show_at k l)) × (l ≡ lent d (show_at k l))
    show_faulty l = (
      sym (stays (show_at k l) (said (refused (suc f) 0)) (to_nowhere (show_at k l) (unfold routed theory.place_route in rw at-fault))
          (unfold dispatch_answer theory.place_answer in rw at-fault)),
      sym (lent_is (show_at k l) ∙ (unfold dispatch_lent theory.lent_by theory.dispatch_given routed theory.place_route in rw at-fault)),
    )

  module _ (i : ℕ) (b : i < 8) (g : held_fault d (suc i) ≡ 0) (z : Search) where
    at_held : place_fault machine held made (state d) (suc i) ≡ 0
    at_held = sym (fault_is (suc i)) ∙ g

    tell_there : record { dispatcher = d; answer = said (search.reply (get_or d.places i z) tell).answer } ≡ reply d (tell_at (suc i))
    tell_there =
        sym (stays (tell_at (suc i)) (said (search.reply (get_or d.places i z) tell).answer) (still machine held made steady (state d) (tell_at (suc i)) tt refl)
        (unfold dispatch_answer theory.place_answer in rw at_held (ap said (sym (answered i b tell z)))))

    show_there : (l : List ℕ)
        → (record { dispatcher = d; answer = said (search.reply (get_or d.places i z) (calls.show l)).answer } ≡ reply d (show_at (suc i) l))
        × (search.lent (get_or d.places i z) (calls.show l) ≡ lent d (show_at (suc i) l))
    show_there l = (
      sym (stays (show_at (suc i) l) (said (search.reply (get_or d.places i z) (calls.show l)).answer)
          (still machine held made steady (state d) (show_at (suc i) l) tt refl)
          (unfold dispatch_answer theory.place_answer in rw at_held (ap said (sym (answered i b (calls.show l) z))))),
      listed i b (calls.show l) z
          ∙ sym (lent_is (show_at (suc i) l) ∙ (unfold dispatch_lent theory.lent_by theory.dispatch_given routed theory.place_route in rw at_held)),
    )

    close_there : record {
      dispatcher = record { last = d.last; places = set d.places i (search.reply (get_or d.places i z) calls.close).search };
      answer = said (search.reply (get_or d.places i z) calls.close).answer;
    } ≡ reply d (close_at (suc i))
    unfolding last_by
    close_there =
        sym (goes i b calls.close z (close_at (suc i)) (said (search.reply (get_or d.places i z) calls.close).answer)
        (unfold routed theory.place_route in rw at_held)
        (unfold dispatch_answer theory.place_answer in rw at_held (ap said (sym (answered i b calls.close z)))))

-- ---- at a place, by its fault: 24, or one of 42 and 20

module _ (d : Dispatcher) (h : Laid d) (k : ℕ) (r : Refusal) (g : number r ≡ held_fault d k) where
  pub by_fault : (P : ℕ → Type 0) → (passes d ≡ false → P 24) → (passes d ≡ true → (m : ℕ) → held_fault d k ≡ suc m → P (suc m)) → P (number r)
  by_fault P broken at =
      by_cases (passes d)
      (λ e. by (number r) g (positive r) (at e))
      (λ e. subst P (sym (g ∙ held_24 d e k)) (broken e))
    where
      by : (x : ℕ) → x ≡ held_fault d k → 1 ≤ x → ((m : ℕ) → held_fault d k ≡ suc m → P (suc m)) → P x
      by zero q z p = absurd (omega arith)
      by (suc x) q z p = p x (sym q)

  pub tell_refused : refuses d (number r) ≡ reply d (tell_at k)
  tell_refused = by_fault (λ (x : ℕ). refuses d x ≡ reply d (tell_at k)) (λ e. reply_24 d e (tell_at k)) (λ e m q. tell_faulty d h e k m q)

  pub close_refused : refuses d (number r) ≡ reply d (close_at k)
  close_refused = by_fault (λ (x : ℕ). refuses d x ≡ reply d (close_at k)) (λ e. reply_24 d e (close_at k)) (λ e m q. close_faulty d h e k m q)

  pub show_refused : (l : List ℕ) → (refuses d (number r) ≡ reply d (show_at k l)) × (l ≡ lent d (show_at k l))
  show_refused l =
      by_fault (λ (x : ℕ). (refuses d x ≡ reply d (show_at k l)) × (l ≡ lent d (show_at k l)))
      (λ e. (reply_24 d e (show_at k l), lent_24 d e k l)) (λ e m q. show_faulty d h e k m q l)

module _ (d : Dispatcher) (h : Laid d) (k i : ℕ) (g : (held_fault d k ≡ 0) × (k ≡ suc i) × (i < 8)) (z : Search) where
  sound : passes d ≡ true
  sound = by_cases (passes d) (λ e. e) (λ e. absurd (let w : 24 ≡ 0 = sym (held_24 d e k) ∙ g.0 in omega arith))

  faultless : held_fault d (suc i) ≡ 0
  faultless = ap (λ (x : ℕ). held_fault d x) (sym g.1) ∙ g.0

  pub tell_done : record { dispatcher = d; answer = said (search.reply (get_or d.places i z) tell).answer } ≡ reply d (tell_at k)
  tell_done = tell_there d h sound i g.2 faultless z ∙ ap (λ (x : ℕ). reply d (tell_at x)) (sym g.1)

  pub show_done : (l : List ℕ)
      → (record { dispatcher = d; answer = said (search.reply (get_or d.places i z) (calls.show l)).answer } ≡ reply d (show_at k l))
      × (search.lent (get_or d.places i z) (calls.show l) ≡ lent d (show_at k l))
  show_done l =
      let r = show_there d h sound i g.2 faultless z l in
      (r.0 ∙ ap (λ (x : ℕ). reply d (show_at x l)) (sym g.1), r.1 ∙ ap (λ (x : ℕ). lent d (show_at x l)) (sym g.1))

  pub close_done : record {
    dispatcher = record { last = d.last; places = set d.places i (search.reply (get_or d.places i z) calls.close).search };
    answer = said (search.reply (get_or d.places i z) calls.close).answer;
  } ≡ reply d (close_at k)
  close_done = close_there d h sound i g.2 faultless z ∙ ap (λ (x : ℕ). reply d (close_at x)) (sym g.1)
