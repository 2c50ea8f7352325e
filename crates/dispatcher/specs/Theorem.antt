-- C-24'S CLAIMS HOLD OF THE CALLS, however their answers are said: dispatch_theory's at document 01's machine and crate search's record, and
-- demand 3's of the machine. Assumes nothing.
use Rattle.std.specs.Prelude.{◌≡◌, refl, true, List, ◌++◌, ℕ, zero, suc, ◌-◌, ◌^◌, ◌≤◌, length}
use Rattle.std.proofs.Common.{sym, ap, ◌∙◌, subst, arith, le-leb}
use Rattle.std.proofs.Math.Decide.{dec_le}
use Rattle.std.proofs.Math.ListN.{get_or-eq_default}
use Rattle.graph.specs.Network.{network}
use Rattle.tours.specs.OneNetwork.{OneNetwork}
use Rattle.machine.specs.Machine.{Opening, State, no_search, searching}
use Rattle.machine.specs.Calls as calls
use Rattle.machine.specs.Calls.{Verdict, since, history, free_at_start, step}
use Rattle.machine.proofs.Claim.{machine_agrees, machine_ends}
use Rattle.machine.proofs.Following.{said_as}
use Rattle.machine.specs.Claims.Claim as claim
use Rattle.machine.specs.Demand3.{Finished, LeavesFinished}
use Rattle.search.specs.Record.{encode}
use Rattle.search.specs.Record as search
use Rattle.lent_records.specs.Places.{under}
use Rattle.lent_records.specs.Machine.{leaves, leaves-append}
use Rattle.lent_records.specs.Records.{Interface, record_of, AsTheMachine, replies, Outcome}
use Rattle.lent_records.specs.Following.{Follows, as_the_machine, replies_follow, reply_is, lent_is}
use Rattle.search_records.specs.Same.{same-leaves}
use Rattle.dispatch_theory.specs.Dispatcher as theory
use Rattle.dispatch_theory.specs.Dispatcher.{tell_at, show_at, turn, fresh, state_at, is_held, place_fault, dispatch_answer, dispatch_lent, routed}
use Rattle.dispatch_theory.specs.Alone.{alone, size-after}
use Rattle.dispatch_theory.specs.Stretches.{Quiet, turns}
use Rattle.dispatch_theory.proofs.Fairness.{fair}
use Rattle.dispatch_theory.specs.Records.{alone-bytes}
use Rattle.dispatcher.specs.Searches.{machine, held, made, codec}
use Rattle.dispatcher.specs.Steady.{steady}
use Rattle.dispatcher.specs.Replies.{Call, dispatching, dispatchers, form, reply, lent}
use Rattle.dispatcher.specs.Claims.{Unfinished, EightTurns, calls_at, Served, at, SaysAt, Dispatches, calls_said, calls_made}
use Rattle.dispatcher.specs.declared.Dispatcher.{Dispatcher}

-- ---- a place that holds a finished search

range : (xs : List Call) (k : ℕ) → Finished (state_at machine held made (leaves dispatching xs) k) → (1 ≤ k) × (k ≤ 8)
unfolding state_at under leaves
range xs zero f = absurd f
range xs (suc k) f = go (dec_le (suc k) 8)
  where
    long : length (leaves dispatching xs).places ≡ 8
    long = size-after machine held made xs (fresh machine held made) (unfold fresh in refl)

    go : Dec (suc k ≤ 8) → (1 ≤ suc k) × (suc k ≤ 8)
    go (yes b) = (omega arith, b)
    go (no b) = absurd (subst Finished (get_or-eq_default (leaves dispatching xs).places no_search (omega (arith, long))) f)

opened : (s : State) → Finished s → held.is_open s ≡ true
opened no_search f = absurd f
opened (searching p) f = refl

no_fault : (xs : List Call) (k : ℕ) → Finished (state_at machine held made (leaves dispatching xs) k)
    → place_fault machine held made (leaves dispatching xs) k ≡ 0
unfolding place_fault is_held
no_fault xs k f =
    let r = range xs k f in
    rw (le-leb 1 k r.0, le-leb k 8 r.1, opened (state_at machine held made (leaves dispatching xs) k) f)

module _ (i : Interface dispatching) (f : Follows i) where
  as_said : (xs : List Call) → AsTheMachine i xs
  as_said xs = as_the_machine i f xs

  -- nobody waits past eight turns
  fair_here : (ws xs : List Call) (k : ℕ) → let d = i.holds (record_of i ws) in Unfinished d k → EightTurns d xs → Served i ws xs k
  fair_here ws xs k w q =
      let e = (as_said ws).holds in
      let r = fair machine held made steady ws xs k (subst (λ d. Unfinished d k) e w)
      (subst (λ d. Quiet machine held made d xs) e q.0) (subst (λ d. 8 ≤ turns machine held made d xs) e q.1) in record {
        before = r.before;
        portion = r.portion;
        since = r.since;
        split = r.split;
        serves = (as_said (ws ++ r.before)).answered (turn r.portion)
            ∙ ap i.said (ap (λ d. dispatch_answer machine held made d (turn r.portion)) (leaves-append dispatching ws r.before) ∙ r.serves);
      }

  module _ (xs : List Call) (k : ℕ) where
    -- the state at the place is what its own calls leave
    at_place : state_at machine held made (leaves dispatching xs) k ≡ calls.leaves (calls_at k xs)
    at_place = alone machine held made xs k ∙ sym (same-leaves (calls_at k xs))

    ends_here : (o : Opening) (total : ℕ) → history (calls_at k xs) ≡ since o total → free_at_start o ≤ 62
        → 2 ^ suc (free_at_start o) - 1 ≤ total → Finished (state_at machine held made (i.holds (record_of i xs)) k)
    ends_here o total e few enough =
        subst Finished (sym (ap (λ d. state_at machine held made d k) (as_said xs).holds ∙ at_place))
        (machine_ends (calls_at k xs) o total e few enough)

    module _ (o : Opening) (l : LeavesFinished (calls_at k xs) o) where
      here : place_fault machine held made (leaves dispatching xs) k ≡ 0
      here = no_fault xs k (subst Finished (sym at_place) l.done)

      tells : i.answer (record_of i xs) (tell_at k) ≡ i.said (theory.said (step (calls.leaves (calls_at k xs)) calls.tell).answer)
      tells =
          (as_said xs).answered (tell_at k)
          ∙ ap i.said (unfold dispatch_answer theory.place_answer in rw here (ap (λ s. theory.said (step s calls.tell).answer) at_place))

      shows : (b : List ℕ)
          → i.answer (record_of i xs) (show_at k b) ≡ i.said (theory.said (step (calls.leaves (calls_at k xs)) (calls.show b)).answer)
      shows b =
          (as_said xs).answered (show_at k b)
          ∙ ap i.said (unfold dispatch_answer theory.place_answer in rw here (ap (λ s. theory.said (step s (calls.show b)).answer) at_place))

      writes : (b : List ℕ) → i.list (record_of i xs) (show_at k b) ≡ (step (calls.leaves (calls_at k xs)) (calls.show b)).lent
      writes b =
          (as_said xs).listed (show_at k b)
          ∙ (unfold dispatch_lent theory.lent_by theory.dispatch_given routed theory.place_route in rw here
          (ap (λ s. (step s (calls.show b)).lent) at_place))

      says : (v : Verdict) → claim.Says (calls_at k xs) o v → SaysAt i xs k o v
      says =
          said_as (λ a. i.said (theory.said a)) (λ c. i.answer (record_of i xs) (at k c)) (λ c. i.list (record_of i xs) (at k c)) (calls_at k xs)
          tells shows writes o

  agree_here : (xs ys : List Call) (j k : ℕ) (o p : Opening) → LeavesFinished (calls_at j xs) o
      → LeavesFinished (calls_at k ys) p → OneNetwork (network o.graph) (network p.graph)
      → o.ashore ≡ p.ashore → o.settings.ceiling ≡ p.settings.ceiling → (v : Verdict) × SaysAt i xs j o v × SaysAt i ys k p v
  agree_here xs ys j k o p l m one inactive same =
      let a = machine_agrees (calls_at j xs) (calls_at k ys) o p l m one inactive same in
      (a.0, says xs j o l a.0 a.1, says ys k p m a.0 a.2)

-- ---- the calls of this crate

pub calls-follow : {A : Type 0} (f : theory.Response calls.Answer → A) → Follows (calls_said f)
unfolding reply lent
calls-follow f = record {
  Kept = dispatchers.Kept;
  begun = dispatchers.begun;
  goes_on = dispatchers.goes_on;
  starts = refl;
  next = λ s h c. ap (λ (x : Outcome Dispatcher (theory.Response calls.Answer)). x.left) (reply_is dispatchers s h c);
  answer = λ s h c. ap (λ (x : Outcome Dispatcher (theory.Response calls.Answer)). f x.answer) (reply_is dispatchers s h c);
  list = lent_is dispatchers;
  back = dispatchers.returns;
  sound = dispatchers.passes;
}

pub dispatches : {A : Type 0} (f : theory.Response calls.Answer → A) → Dispatches (calls_said f) (λ d. d.places)
dispatches f = record {
  equal = as_said (calls_said f) (calls-follow f);
  fair = fair_here (calls_said f) (calls-follow f);
  alone = λ xs k.
      ap (λ (d : Dispatcher). under search.fresh d.places k)
      ((as_said (calls_said f) (calls-follow f) xs).bytes ∙ sym (as_the_machine (replies dispatchers) (replies_follow dispatchers) xs).bytes)
      ∙ (unfold encode in alone-bytes held made codec form xs k);
  agree = agree_here (calls_said f) (calls-follow f);
  ends = ends_here (calls_said f) (calls-follow f);
}

-- C-24's claims, of the calls on a lent dispatcher
pub calls_dispatch : Dispatches calls_made (λ d. d.places)
calls_dispatch = dispatches (λ a. a)
