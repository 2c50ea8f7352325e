-- DEMAND 3 HOLDS OF THE CALLS: one call on a record that holds a state gives what the machine gives (reply_is, lent_is), so the calls follow
-- the machine. And the answers of the code to a call are the machine's under other names: no two mean the same (meaning-injective), and every
-- answer of the machine's is meant by one (step-meant, reply-meant). Assumes nothing.
use Rattle.std.specs.Prelude.{◌≡◌, refl, Bool, true, false, List, ◌++◌, ℕ, zero, suc, eqb, length, Result, Ok, Err}
use Rattle.std.proofs.Common.{ap, inl, inr}
use Rattle.lists.specs.Bools.{by_cases}
use Rattle.lists.specs.Members.{◌∈◌}
use Rattle.graph.specs.declared.refusals.Refusal.{Refusal}
use Rattle.graph.specs.declared.refusals.Refusal.TheVariants.{NotOpen, AlreadyOpen, NodesWait, Graph, Length, Multiplier, Ceiling, Settings, Denominator, Ashore, Record}
use Rattle.graph.specs.declared.refusals.Refusal.TheVariants.{NoTour as no-tour}
use Rattle.graph.specs.Refusals.{number, number-injective}
use Rattle.machine.specs.Outcomes.{Incumbent, no_tour, a_tour}
use Rattle.machine.specs.Machine as state
use Rattle.machine.specs.Machine.{Opening, State, no_search, searching, finished, ran}
use Rattle.machine.specs.Calls.{Call, opens, run, tell, show, close, going_on, none, best, refused, accepted, runs, tells}
use Rattle.machine.specs.Calls.{fault, opened_by, run_by, verdict, shown_by, step}
use Rattle.machine.specs.Calls as machine
use Rattle.machine.specs.Kept.{KeptState}
use Rattle.machine.specs.Refusals.{unfit, faults, refused-leaves}
use Rattle.machine.specs.Demand3.{Demand3}
use Rattle.machine.specs.Claims.Following.{Follows}
use Rattle.machine.proofs.Following.{follows_demand_3}
use Rattle.search.specs.Record.{decode, encode}
use Rattle.search.specs.Check.{check, check_yes}
use Rattle.search.specs.Inverse.{encode_canonical, decode-encode}
use Rattle.search.specs.Replies.{means, run_means, tell_means, Outcome, reply, lent}
use Rattle.search.specs.Demand3.{calls_said, calls}
use Rattle.search.specs.declared.Search.{Search}
use Rattle.search.specs.declared.Progress.{Progress}
use Rattle.search.specs.declared.Progress.TheVariants.{GoingOn, Finished}
use Rattle.search.specs.declared.Verdict.{Verdict}
use Rattle.search.specs.declared.Verdict.TheVariants.{Searching, NoTour, Best}

-- ---- answers

-- a call's answers in the code, and what they mean
abbrev pub AnswerTo : Call → Type 0
AnswerTo (opens a) = Result (Unit {0}) Refusal
AnswerTo (run budget) = Result Progress Refusal
AnswerTo tell = Result Verdict Refusal
AnswerTo (show l) = Result (Unit {0}) Refusal
AnswerTo close = Result (Unit {0}) Refusal

abbrev pub meaning : (c : Call) → AnswerTo c → machine.Answer
meaning (opens a) x = means x
meaning (run budget) x = run_means x
meaning tell x = tell_means x
meaning (show l) x = means x
meaning close x = means x

pub refusal_is : (r q : Refusal) → refused (number r) 0 ≡ refused (number q) 0 → r ≡ q
refusal_is r q e = number-injective r q cc

-- no two answers mean the same
pub means-injective : (a b : Result (Unit {0}) Refusal) → means a ≡ means b → a ≡ b
means-injective (Ok x) (Ok y) e = refl
means-injective (Ok x) (Err q) e = cc
means-injective (Err r) (Ok y) e = cc
means-injective (Err r) (Err q) e = ap (λ z. Err z) (refusal_is r q e)

pub run_means-injective : (a b : Result Progress Refusal) → run_means a ≡ run_means b → a ≡ b
run_means-injective (Ok (GoingOn m)) (Ok (GoingOn n)) e = let same : m ≡ n = cc in rw same
run_means-injective (Ok (GoingOn m)) (Ok (Finished n)) e = cc
run_means-injective (Ok (Finished m)) (Ok (GoingOn n)) e = cc
run_means-injective (Ok (Finished m)) (Ok (Finished n)) e = let same : m ≡ n = cc in rw same
run_means-injective (Ok (GoingOn m)) (Err q) e = cc
run_means-injective (Ok (Finished m)) (Err q) e = cc
run_means-injective (Err r) (Ok (GoingOn n)) e = cc
run_means-injective (Err r) (Ok (Finished n)) e = cc
run_means-injective (Err r) (Err q) e = ap (λ z. Err z) (refusal_is r q e)

pub tell_means-injective : (a b : Result Verdict Refusal) → tell_means a ≡ tell_means b → a ≡ b
tell_means-injective (Ok (Searching m)) (Ok (Searching n)) e = let same : m ≡ n = cc in rw same
tell_means-injective (Ok (Searching m)) (Ok (NoTour n)) e = cc
tell_means-injective (Ok (Searching m)) (Ok (Best d n)) e = cc
tell_means-injective (Ok (NoTour m)) (Ok (Searching n)) e = cc
tell_means-injective (Ok (NoTour m)) (Ok (NoTour n)) e = let same : m ≡ n = cc in rw same
tell_means-injective (Ok (NoTour m)) (Ok (Best d n)) e = cc
tell_means-injective (Ok (Best c m)) (Ok (Searching n)) e = cc
tell_means-injective (Ok (Best c m)) (Ok (NoTour n)) e = cc
tell_means-injective (Ok (Best c m)) (Ok (Best d n)) e = let same : m ≡ n = cc in let cost : c ≡ d = cc in rw (same, cost)
tell_means-injective (Ok (Searching m)) (Err q) e = cc
tell_means-injective (Ok (NoTour m)) (Err q) e = cc
tell_means-injective (Ok (Best c m)) (Err q) e = cc
tell_means-injective (Err r) (Ok (Searching n)) e = cc
tell_means-injective (Err r) (Ok (NoTour n)) e = cc
tell_means-injective (Err r) (Ok (Best d n)) e = cc
tell_means-injective (Err r) (Err q) e = ap (λ z. Err z) (refusal_is r q e)

pub meaning-injective : (c : Call) (a b : AnswerTo c) → meaning c a ≡ meaning c b → a ≡ b
meaning-injective (opens o) = means-injective
meaning-injective (run budget) = run_means-injective
meaning-injective tell = tell_means-injective
meaning-injective (show l) = means-injective
meaning-injective close = means-injective

-- an answer of the code to a call that means the machine's answer a
pub record Meant (c : Call) (a : machine.Answer) : Type 0 where
  pub said : AnswerTo c
  pub is : meaning c said ≡ a

refusal_meant : (c : Call) (r : Refusal) → Meant c (refused (number r) 0)
refusal_meant (opens o) r = record { said = Err r; is = refl }
refusal_meant (run budget) r = record { said = Err r; is = refl }
refusal_meant tell r = record { said = Err r; is = refl }
refusal_meant (show l) r = record { said = Err r; is = refl }
refusal_meant close r = record { said = Err r; is = refl }

-- the numbers of an opening's faults are those of `Refusal`'s cases
numbered : (c : Call) (r : Refusal) (k : ℕ) → k ≡ number r → Meant c (refused k 0)
numbered c r k e = rw e (refusal_meant c r)

known_meant : (c : Call) (k : ℕ) → k ∈ (unfit ++ faults) → Meant c (refused k 0)
known_meant c k (inl e) = numbered c NotOpen k e
known_meant c k (inr (inl e)) = numbered c AlreadyOpen k e
known_meant c k (inr (inr (inl e))) = numbered c NodesWait k e
known_meant c k (inr (inr (inr (inl e)))) = numbered c no-tour k e
known_meant c k (inr (inr (inr (inr (inl e))))) = numbered c Graph k e
known_meant c k (inr (inr (inr (inr (inr (inl e)))))) = numbered c Length k e
known_meant c k (inr (inr (inr (inr (inr (inr (inl e))))))) = numbered c Multiplier k e
known_meant c k (inr (inr (inr (inr (inr (inr (inr (inl e)))))))) = numbered c Ceiling k e
known_meant c k (inr (inr (inr (inr (inr (inr (inr (inr (inl e))))))))) = numbered c Settings k e
known_meant c k (inr (inr (inr (inr (inr (inr (inr (inr (inr (inl e)))))))))) = numbered c Denominator k e
known_meant c k (inr (inr (inr (inr (inr (inr (inr (inr (inr (inr (inl e))))))))))) = numbered c Ashore k e
known_meant c k (inr (inr (inr (inr (inr (inr (inr (inr (inr (inr (inr x11))))))))))) = elim x11 [ ]

open_meant : (o : Opening) (k : ℕ) → fault o ≡ k → Meant (opens o) (opened_by o k).answer
unfolding opened_by
open_meant o zero f = record { said = Ok tt; is = refl }
open_meant o (suc k) f =
    known_meant (opens o) (suc k) (refused-leaves no_search (opens o) (suc k) 0 (unfold step opened_by in rw f refl)).known

run_meant : (budget : ℕ) (done : Bool) (count : ℕ) → Meant (run budget) (runs done count)
run_meant budget true count = record { said = Ok (Finished count); is = refl }
run_meant budget false count = record { said = Ok (GoingOn count); is = refl }

tell_meant : (v : machine.Verdict) (count : ℕ) → Meant tell (tells v count)
tell_meant going_on count = record { said = Ok (Searching count); is = refl }
tell_meant none count = record { said = Ok (NoTour count); is = refl }
tell_meant (best c) count = record { said = Ok (Best c count); is = refl }

show_meant : (p : state.Progress) (l : List ℕ) (b : Bool) (i : Incumbent (List Bool)) → Meant (show l) (shown_by p l b i).answer
unfolding shown_by
show_meant p l false i = refusal_meant (show l) NodesWait
show_meant p l true no_tour = refusal_meant (show l) no-tour
show_meant p l true (a_tour r) =
    by_cases (eqb (length l) p.opening.graph.m) (λ e. rw e (record { said = Ok tt; is = refl })) (λ e. rw e (refusal_meant (show l) Length))

-- every answer of the machine's to a call is meant by one of the code's to it
pub step-meant : (s : State) (c : Call) → Meant c (step s c).answer
unfolding step run_by
step-meant no_search (opens o) = open_meant o (fault o) refl
step-meant no_search (run budget) = refusal_meant (run budget) NotOpen
step-meant no_search tell = refusal_meant tell NotOpen
step-meant no_search (show l) = refusal_meant (show l) NotOpen
step-meant no_search close = refusal_meant close NotOpen
step-meant (searching p) (opens o) = refusal_meant (opens o) AlreadyOpen
step-meant (searching p) (run budget) = run_meant budget (finished (ran budget p)) (ran budget p).count
step-meant (searching p) tell = tell_meant (verdict p) p.count
step-meant (searching p) (show l) = show_meant p l (finished p) p.incumbent
step-meant (searching p) close = record { said = Ok tt; is = refl }

-- and so is every answer of `reply`
pub reply-meant : (s : Search) (c : Call) → Meant c (reply s c).answer
unfolding reply
reply-meant s c =
    by_cases (check s) (λ e. rw e (step-meant (decode s) c))
    (λ e. rw e (refusal_meant c Record))

-- ---- one call on the record of a state

module _ (s : State) (h : KeptState s) where
  pub encode-passes : check (encode s) ≡ true
  encode-passes = check_yes (encode s) (encode_canonical s h)

  pub reply_is : (c : Call) → reply (encode s) c ≡ record { search = encode (step s c).state; answer = (step s c).answer }
  unfolding reply
  reply_is c = rw (encode-passes, decode-encode s h)

  pub lent_is : (c : Call) → lent (encode s) c ≡ (step s c).lent
  unfolding lent
  lent_is c = rw (encode-passes, decode-encode s h)

pub calls-follow : {A : Type 0} (f : machine.Answer → A) → Follows (calls_said f)
calls-follow f = record {
  starts = unfold encode in refl;
  next = λ s h c. ap (λ (o : Outcome). o.search) (reply_is s h c);
  answer = λ s h c. ap (λ (o : Outcome). f o.answer) (reply_is s h c);
  list = lent_is;
  back = decode-encode;
  sound = encode-passes;
}

pub demand_3 : Demand3 calls
demand_3 = follows_demand_3 calls (calls-follow (λ a. a))
