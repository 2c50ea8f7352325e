-- An opening and a run on a fresh record answer as the machine does: crate search's theorem of one call, twice. Assumes nothing.
use Rattle.std.specs.Prelude.{◌≡◌, refl, ℕ}
use Rattle.std.specs.Option.{unwrap_or}
use Rattle.std.proofs.Common.{ap}
use Rattle.machine.specs.Machine.{Opening, no_search}
use Rattle.machine.specs.Calls.{Call, opens, run, step}
use Rattle.machine.proofs.Preserved.{step_kept}
use Rattle.search.specs.Record.{fresh, encode}
use Rattle.search.specs.Replies.{Outcome, reply}
use Rattle.search.specs.Theorem.{reply_is}
use Rattle.compare.specs.Comparison.{finished_in, finishes_with, finishes}

second-answer : (a b : Call) → (reply (reply fresh a).search b).answer ≡ (step (step no_search a).state b).answer
unfolding encode
second-answer a b =
    let kept = step_kept no_search a tt in
    let s = (step no_search a).state in
    rw (ap (λ (o : Outcome). o.search) (reply_is no_search tt a))
    (ap (λ (o : Outcome). o.answer) (reply_is s kept b))

pub counted : (o : Opening) (budget : ℕ)
    → finished_in (reply (reply fresh (opens o)).search (run budget)).answer ≡ finishes_with o budget
unfolding finishes_with
counted o budget = ap finished_in (second-answer (opens o) (run budget))

-- 0 where there is none
pub or_zero : (o : Opening) (budget : ℕ) → unwrap_or (finishes_with o budget) 0 ≡ finishes o budget
unfolding finishes_with finishes
or_zero o budget = refl
