-- WHAT EVERY CONTRACT OF THIS CRATE CITES: what an answer means in document 01 (`means` of opening, showing and closing, `run_means`,
-- `tell_means`), the record and the answer that a call gives (`reply`), and the lent list as it leaves it (`lent`). Definitions only.
use Rattle.std.specs.Prelude.{true, false, cond, List, ℕ, Result, Ok, Err}
use Rattle.graph.specs.declared.refusals.Refusal.{Refusal}
use Rattle.graph.specs.Refusals.{number}
use Rattle.machine.specs.Calls.{Call, lent_by, going_on, none, best, refused, accepted, runs, tells, step}
use Rattle.machine.specs.Calls as machine
use Rattle.search.specs.Record.{is_open, decode, encode}
use Rattle.search.specs.Check.{check}
use Rattle.search.specs.declared.Search.{Search}
use Rattle.search.specs.declared.Progress.{Progress}
use Rattle.search.specs.declared.Progress.TheVariants.{GoingOn, Finished}
use Rattle.search.specs.declared.Verdict.{Verdict}
use Rattle.search.specs.declared.Verdict.TheVariants.{Searching, NoTour, Best}

-- ---- answers

-- document 01's number, place and values for every answer; no refusal of these calls has a place
abbrev pub means : Result (Unit {0}) Refusal → machine.Answer
means (Err r) = refused (number r) 0
means (Ok done) = accepted

abbrev pub run_means : Result Progress Refusal → machine.Answer
run_means (Err r) = refused (number r) 0
run_means (Ok (GoingOn count)) = runs false count
run_means (Ok (Finished count)) = runs true count

abbrev pub tell_means : Result Verdict Refusal → machine.Answer
tell_means (Err r) = refused (number r) 0
tell_means (Ok (Searching count)) = tells going_on count
tell_means (Ok (NoTour count)) = tells none count
tell_means (Ok (Best c count)) = tells (best c) count

-- ---- one call

-- what a call leaves of the record, and its answer
pub record Outcome : Type 0 where
  pub search : Search
  pub answer : machine.Answer

-- a refusal: the record as it was
abbrev pub refuses : Search → ℕ → Outcome
refuses s number = record { search = s; answer = refused number 0 }

-- "Tested before all input, in this order: 24 the record fails its own check"; else the call is the machine's, on the state that the record
-- holds, and the record then holds the machine's next state
unfoldable pub reply : Search → Call → Outcome
reply s c =
    cond (check s)
    (record { search = encode (step (decode s) c).state; answer = (step (decode s) c).answer })
    (record { search = s; answer = refused 24 0 })

-- the lent list as the call leaves it
unfoldable pub lent : Search → Call → List ℕ
lent s c = cond (check s) (step (decode s) c).lent (lent_by c)

-- the first two of that order: the record's own check; "20 no hunt is open (run, tell, show, close)"
abbrev pub closed_fault : Search → ℕ
closed_fault s = cond (check s) (cond (is_open s) 0 20) 24
