-- THE CODE'S ANSWERS to a call ARE THE DISPATCHER'S under other names: no two mean the same (meaning-injective), and every answer of the
-- dispatcher's is meant by one (reply-meant). Assumes nothing.
use Rattle.std.specs.Prelude.{◌≡◌, refl, false, ℕ, zero, suc, Option, Some, None, Result, Ok, Err}
use Rattle.std.proofs.Common.{ap, ◌∙◌, true≢false}
use Rattle.lists.specs.Bools.{by_cases}
use Rattle.graph.specs.declared.refusals.Refusal.{Refusal}
use Rattle.graph.specs.declared.refusals.Refusal.TheVariants.{Record, NotOpen, NoNodes, Full, Place}
use Rattle.graph.specs.Refusals.{number}
use Rattle.machine.specs.Machine.{State}
use Rattle.machine.specs.Calls as calls
use Rattle.machine.specs.Calls.{refused, step}
use Rattle.search.specs.Replies as search
use Rattle.search.specs.Theorem as search-theorem
use Rattle.search.specs.Theorem.{refusal_is, means-injective, tell_means-injective}
use Rattle.search.specs.declared.Verdict.{Verdict}
use Rattle.lent_records.specs.Places.{is_name}
use Rattle.lent_records.specs.Records as records
use Rattle.dispatch_theory.specs.Dispatcher as theory
use Rattle.dispatch_theory.specs.Dispatcher.{DispatchCall, add, turn, tell_at, show_at, close_at, Response, placed, served, idle, said, state_at, is_held, free_place, next_place, place_fault, dispatch_answer}
use Rattle.dispatch_theory.specs.Records.{decode_all, check_all}
use Rattle.dispatcher.specs.Searches.{machine, held, made, codec}
use Rattle.dispatcher.specs.Replies.{Call, form, add_means, turn_means, tell_means, means, reply}
use Rattle.dispatcher.specs.declared.Dispatcher.{Dispatcher}

-- a call's answers in the code, and what they mean
abbrev pub AnswerTo : Call → Type 0
AnswerTo (add a) = Result ℕ Refusal
AnswerTo (turn p) = Result (Option ℕ) Refusal
AnswerTo (tell_at i) = Result Verdict Refusal
AnswerTo (show_at i l) = Result (Unit {0}) Refusal
AnswerTo (close_at i) = Result (Unit {0}) Refusal

abbrev pub meaning : (c : Call) → AnswerTo c → Response calls.Answer
meaning (add a) x = add_means x
meaning (turn p) x = turn_means x
meaning (tell_at i) x = tell_means x
meaning (show_at i l) x = means x
meaning (close_at i) x = means x

-- ---- no two mean the same

same_said : (a b : calls.Answer) → said a ≡ said b → a ≡ b
same_said a b e = cc

pub add_means-injective : (a b : Result ℕ Refusal) → add_means a ≡ add_means b → a ≡ b
add_means-injective (Err r) (Err q) e = ap (λ x. Err x) (refusal_is r q (same_said _ _ e))
add_means-injective (Err r) (Ok j) e = cc
add_means-injective (Ok i) (Err q) e = cc
add_means-injective (Ok i) (Ok j) e = let same : i ≡ j = cc in rw same

pub turn_means-injective : (a b : Result (Option ℕ) Refusal) → turn_means a ≡ turn_means b → a ≡ b
turn_means-injective (Err r) (Err q) e = ap (λ x. Err x) (refusal_is r q (same_said _ _ e))
turn_means-injective (Err r) (Ok None) e = cc
turn_means-injective (Err r) (Ok (Some j)) e = cc
turn_means-injective (Ok None) (Err q) e = cc
turn_means-injective (Ok None) (Ok None) e = refl
turn_means-injective (Ok None) (Ok (Some j)) e = cc
turn_means-injective (Ok (Some i)) (Err q) e = cc
turn_means-injective (Ok (Some i)) (Ok None) e = cc
turn_means-injective (Ok (Some i)) (Ok (Some j)) e = let same : i ≡ j = cc in rw same

pub meaning-injective : (c : Call) (a b : AnswerTo c) → meaning c a ≡ meaning c b → a ≡ b
meaning-injective (add o) a b e = add_means-injective a b e
meaning-injective (turn p) a b e = turn_means-injective a b e
meaning-injective (tell_at i) a b e = tell_means-injective a b (same_said _ _ e)
meaning-injective (show_at i l) a b e = means-injective a b (same_said _ _ e)
meaning-injective (close_at i) a b e = means-injective a b (same_said _ _ e)

-- ---- every answer is meant

-- an answer of the code to a call that means the dispatcher's answer a
pub record Meant (c : Call) (a : Response calls.Answer) : Type 0 where
  pub answer : AnswerTo c
  pub is : meaning c answer ≡ a

refusal : (c : Call) (r : Refusal) → Meant c (said (refused (number r) 0))
refusal (add a) r = record { answer = Err r; is = refl }
refusal (turn p) r = record { answer = Err r; is = refl }
refusal (tell_at i) r = record { answer = Err r; is = refl }
refusal (show_at i l) r = record { answer = Err r; is = refl }
refusal (close_at i) r = record { answer = Err r; is = refl }

module _ (d : theory.Dispatcher State) where
  -- a refused opening
  turned : (o : made.Opening) (a : calls.Answer) → search-theorem.Meant (calls.opens o) a → calls.is_accepted a ≡ false → Meant (add o) (said a)
  turned o a m f = go m.said m.is
    where
      go : (x : Result (Unit {0}) Refusal) → search.means x ≡ a → Meant (add o) (said a)
      go (Err r) e = record { answer = Err r; is = ap said e }
      go (Ok x) e = absurd (true≢false (ap calls.is_accepted e ∙ f))

  meant_add : (a : made.Opening) (k : ℕ) → Meant (add a) (theory.add_answer machine held made d a k)
  unfolding theory.add_answer
  meant_add a zero = refusal (add a) Full
  meant_add a (suc i) =
      by_cases (calls.is_accepted (step (state_at machine held made d (suc i)) (calls.opens a)).answer)
      (λ t. rw t (record { answer = Ok (suc i); is = refl }))
      (λ t. rw t (turned a _ (search-theorem.step-meant (state_at machine held made d (suc i)) (calls.opens a)) t))

  meant_turn : (p k : ℕ) → Meant (turn p) (theory.turn_answer machine held made p k)
  unfolding theory.turn_answer
  meant_turn zero k = refusal (turn zero) NoNodes
  meant_turn (suc p) zero = record { answer = Ok None; is = refl }
  meant_turn (suc p) (suc k) = record { answer = Ok (Some (suc k)); is = refl }

  -- at a place, where the place's own answer is meant
  meant_place : (x : Call) (i : ℕ) (c : calls.Call) → Meant x (said (step (state_at machine held made d i) c).answer)
      → Meant x (theory.place_answer machine held made d i c (place_fault machine held made d i))
  unfolding theory.place_answer place_fault
  meant_place x i c m =
      by_cases (is_name i)
      (λ n. by_cases (is_held machine held made d i)
      (λ h. rw (n, h) m)
      (λ h. rw (n, h) (refusal x NotOpen)))
      (λ n. rw n (refusal x Place))

  meant : (c : Call) → Meant c (dispatch_answer machine held made d c)
  unfolding dispatch_answer
  meant (add a) = meant_add a (free_place machine held made d)
  meant (turn p) = meant_turn p (next_place machine held made d)
  meant (tell_at i) =
      let m = search-theorem.step-meant (state_at machine held made d i) calls.tell in
      meant_place (tell_at i) i calls.tell (record { answer = m.said; is = ap said m.is })
  meant (show_at i l) =
      let m = search-theorem.step-meant (state_at machine held made d i) (calls.show l) in
      meant_place (show_at i l) i (calls.show l) (record { answer = m.said; is = ap said m.is })
  meant (close_at i) =
      let m = search-theorem.step-meant (state_at machine held made d i) calls.close in
      meant_place (close_at i) i calls.close (record { answer = m.said; is = ap said m.is })

pub reply-meant : (d : Dispatcher) (c : Call) → Meant c (reply d c).answer
unfolding reply records.reply
reply-meant d c =
    by_cases (check_all held made codec form d)
    (λ e. rw e (meant (decode_all held made codec form d) c))
    (λ e. rw e (refusal c Record))
