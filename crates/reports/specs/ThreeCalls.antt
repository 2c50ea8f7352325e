-- Calls on a fresh record answer as the machine does: crate search's theorem of one call, at the three calls of program 'hunt'. Assumes nothing.
use Rattle.std.specs.Prelude.{◌≡◌, true, false}
use Rattle.std.proofs.Common.{◌∙◌, ap}
use Rattle.machine.specs.Machine.{Opening, State, no_search}
use Rattle.machine.specs.Calls.{Call, opens, run, tell, step, is_accepted}
use Rattle.machine.specs.Kept.{KeptState}
use Rattle.machine.proofs.Preserved.{step_kept}
use Rattle.search.specs.Record.{fresh, encode}
use Rattle.search.specs.Replies.{Outcome, reply}
use Rattle.search.specs.Theorem.{reply_is}
use Rattle.reports.specs.Searching.{budget, last_answer}

-- what a call on the record of a state answers, and the record that it leaves
module _ (s : State) (h : KeptState s) (c : Call) where
  answered : (reply (encode s) c).answer ≡ (step s c).answer
  answered = ap (λ (o : Outcome). o.answer) (reply_is s h c)

  left : (reply (encode s) c).search ≡ encode (step s c).state
  left = ap (λ (o : Outcome). o.search) (reply_is s h c)

first-answer : (a : Call) → (reply fresh a).answer ≡ (step no_search a).answer
unfolding encode
first-answer a = answered no_search tt a

third_answer : (a b c : Call)
    → (reply (reply (reply fresh a).search b).search c).answer
    ≡ (step (step (step no_search a).state b).state c).answer
unfolding encode
third_answer a b c =
    let one = step_kept no_search a tt in
    let two = step_kept (step no_search a).state b one in
    rw (left no_search tt a, left (step no_search a).state one b) (answered (step (step no_search a).state b).state two c)

module _ (o : Opening) where
  -- the answer to print of a refused opening
  pub answer-refused : is_accepted (reply fresh (opens o)).answer ≡ false → (reply fresh (opens o)).answer ≡ last_answer o
  unfolding last_answer
  answer-refused h = first-answer (opens o) ∙ rw (rw (first-answer (opens o)) at h)

  -- and of an accepted one
  pub answer-told : is_accepted (reply fresh (opens o)).answer ≡ true
      → (reply (reply (reply fresh (opens o)).search (run budget)).search tell).answer ≡ last_answer o
  unfolding last_answer
  answer-told h = third_answer (opens o) (run budget) tell ∙ rw (rw (first-answer (opens o)) at h)
