-- C-24'S CLAIMS, over whole lists of calls on a fresh dispatcher, refused calls included: the statement, once, for every way in which the
-- calls can be made (an Interface of the dispatcher's machine). Nothing is proved here. This crate has the calls on a lent dispatcher
-- (`calls`), crate ffi the exported ones; each proves `Dispatches` of its own, by Theorem.
use Rattle.std.specs.Prelude.{◌≡◌, true, List, ◌∷◌, ◌++◌, ℕ, suc, ◌-◌, ◌^◌, ◌≤◌}
use Rattle.graph.specs.Network.{network}
use Rattle.tours.specs.OneNetwork.{OneNetwork}
use Rattle.machine.specs.Machine.{Opening, State}
use Rattle.machine.specs.Calls as calls
use Rattle.machine.specs.Calls.{Verdict, since, history, free_at_start}
use Rattle.machine.specs.Demand3.{Finished, LeavesFinished, Says}
use Rattle.search.specs.Record as search
use Rattle.search.specs.declared.Search.{Search}
use Rattle.lent_records.specs.Places.{under}
use Rattle.lent_records.specs.Records.{Interface, record_of, AsTheMachine, replies}
use Rattle.dispatch_theory.specs.Dispatcher as theory
use Rattle.dispatch_theory.specs.Dispatcher.{add, turn, tell_at, show_at, close_at, served, state_at, waits, own}
use Rattle.dispatch_theory.specs.Stretches.{Quiet, turns}
use Rattle.dispatch_theory.specs.Records.{encode_all, decode_all, check_all}
use Rattle.dispatcher.specs.Searches.{machine, held, made, codec}
use Rattle.dispatcher.specs.Replies.{Call, dispatching, form, reply, lent}
use Rattle.dispatcher.specs.declared.Dispatcher.{Dispatcher}

-- ---- words of dispatch_theory at document 01's machine

-- the search at the place k, and whether one is held there and unfinished
abbrev pub state_of : theory.Dispatcher State → ℕ → State
state_of d k = state_at machine held made d k

abbrev pub Unfinished : theory.Dispatcher State → ℕ → Type 0
Unfinished d k = (waits machine held made d k ≡ true)

-- from d on, the list has no accepted add and no accepted close, and eight accepted turns or more
abbrev pub EightTurns : theory.Dispatcher State → List Call → Type 0
EightTurns d xs = Quiet machine held made d xs × (8 ≤ turns machine held made d xs)

-- the calls that the place k had, of a list from fresh: openings, runs, tells, shows and closes
abbrev pub calls_at : ℕ → List Call → List calls.Call
calls_at k xs = own machine held made k xs

-- ---- the claims

-- after the list ws, one of the turns of xs answers the place k
pub record Served (i : Interface dispatching) (ws xs : List Call) (k : ℕ) : Type 0 where
  pub before : List Call
  pub portion : ℕ
  pub since : List Call
  pub split : xs ≡ before ++ (turn portion ∷ since)
  pub serves : i.answer (record_of i (ws ++ before)) (turn portion) ≡ i.said (served k)

-- the dispatcher's call for a call at the place k: tell and show there
abbrev pub at : ℕ → calls.Call → Call
at k (calls.opens o) = add o
at k (calls.run p) = turn p
at k calls.tell = tell_at k
at k (calls.show l) = show_at k l
at k calls.close = close_at k

-- what tell and show at the place k give after the list xs, of a finished search that was opened with o
abbrev pub SaysAt : (i : Interface dispatching) → List Call → ℕ → Opening → Verdict → Type 0
SaysAt i xs k o v =
    let d = record_of i xs in Says (λ a. i.said (theory.said a)) (λ c. i.answer d (at k c)) (λ c. i.list d (at k c)) o v

pub record Dispatches (i : Interface dispatching) (places : i.Lent → List Search) : Type 0 where
  -- each answer, each byte of show's list and each byte of the dispatcher as its machine; "24 never comes up"
  pub equal : (xs : List Call) → AsTheMachine i xs
  -- "for every list of accepted turns in which no hunt is added or closed, a hunt unfinished before eight turns in a row is served in one of
  -- them": after any list ws, in any list xs with eight accepted turns and no accepted add or close
  pub fair : (ws xs : List Call) (k : ℕ) → let d = i.holds (record_of i ws) in Unfinished d k → EightTurns d xs → Served i ws xs k
  -- "each hunt equals that hunt run alone with the portions it had": to the byte, the record that its own calls leave of a fresh one
  pub alone : (xs : List Call) (k : ℕ) → under search.fresh (places (record_of i xs)) k ≡ record_of (replies codec) (calls_at k xs)
  -- so that demand 3 holds of it: two finished searches, at places of one dispatcher or of two, agree
  pub agree : (xs ys : List Call) (j k : ℕ) (o p : Opening) → LeavesFinished (calls_at j xs) o
      → LeavesFinished (calls_at k ys) p → OneNetwork (network o.graph) (network p.graph)
      → o.ashore ≡ p.ashore → o.settings.ceiling ≡ p.settings.ceiling → (v : Verdict) × SaysAt i xs j o v × SaysAt i ys k p v
  -- and one whose portions allow enough nodes is finished
  pub ends : (xs : List Call) (k : ℕ) (o : Opening) (total : ℕ) → history (calls_at k xs) ≡ since o total
      → free_at_start o ≤ 62 → 2 ^ suc (free_at_start o) - 1 ≤ total → Finished (state_of (i.holds (record_of i xs)) k)

-- ---- the calls of this crate, each answer that the code's means said by f

abbrev pub calls_said : {A : Type 0} → (theory.Response calls.Answer → A) → Interface dispatching
calls_said {A} f = record {
  Lent = Dispatcher;
  Reply = A;
  fresh = encode_all held made codec form dispatching.begin;
  next = λ d c. (reply d c).dispatcher;
  answer = λ d c. f (reply d c).answer;
  list = lent;
  said = f;
  holds = decode_all held made codec form;
  made = encode_all held made codec form;
  sound = check_all held made codec form;
}

abbrev pub calls_made : Interface dispatching
calls_made = calls_said {A = theory.Response calls.Answer} (λ a. a)
