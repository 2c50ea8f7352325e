-- DEMAND 3 HOLDS OF THE EXPORTED CALLS: crate shelf proves it however the answers are said, if no refusal is said as 'accepted' is; and the verdicts
-- do, if acceptance and 'going on' are seen in the numbers. And so do C-24's claims, which crate dispatcher proves. Assumes nothing.
use Rattle.std.specs.Prelude.{◌≡◌, refl, true, false, ℕ, suc, ◌≤◌}
use Rattle.std.proofs.Common.{sym, ap, arith, true≢false, ne_eqb, le-ltb}
use Rattle.machine.specs.Calls.{Verdict, going_on, none, best, Answer, refused, accepted, runs, tells, is_accepted}
use Rattle.machine.proofs.Following.{follows_demand_3}
use Rattle.onetree_theorems.specs.AtOne.{EveryAnswerIsTheOldOne, search-at_one, EveryUnliftedAnswerIsTheOldOne, search_unlifted, EveryAnswerIsAsWithoutList}
use Rattle.onetree_theorems.specs.AtOne.{search_afloat}
use Rattle.dispatcher.specs.Claims.{Dispatches}
use Rattle.dispatcher.specs.Theorem.{dispatches}
use Rattle.ffi.specs.Dispatches.{said_at, exported_at}
use Rattle.recent_theorems.specs.Recent.{Searched}
use Rattle.recent_theorems.specs.Theorems.{searched}
use Rattle.search.specs.Demand3.{calls_said, calls}
use Rattle.search.specs.Theorem.{calls-follow}
use Rattle.shelf.specs.Demand3.{LeavesFinished, SaysAfter, LiftedAgrees}
use Rattle.shelf.proofs.Theorem.{demand_3_said, demand_3, lifted_agrees}
use Rattle.shelf.proofs.Verdicts.{Seen, verdicts_said, acceptance_said}
use Rattle.ffi.specs.declared.Reply.{Reply}
use Rattle.ffi.specs.Answers.{said_of}
use Rattle.ffi.specs.Demand3.{Exported}
use Rattle.ffi.specs.Verdicts.{accepts_number, ExportedVerdicts, ExportedAcceptance}

apart : (n : ℕ) → ¬ (said_of (refused (suc n) 0) ≡ said_of accepted)
apart n e = let z : suc n ≡ 0 = ap (λ (s : Reply). s.number) e in omega arith

pub demand_3_exported : Exported
demand_3_exported = demand_3_said said_of apart

-- THE VERDICTS OF THE EXPORTED CALLS, and which of these are accepted
seen_numbers : Seen said_of accepts_number
seen_numbers = record { refusal = refusal; acceptance = acceptance; going = going }
  where
    refusal : (n : ℕ) → 1 ≤ n → n ≤ 1000 → accepts_number (said_of (refused n 0)) ≡ false
    refusal n low high = rw (ne_eqb n 0 (λ e. omega (arith, e)), le-ltb 1000 n high) refl

    acceptance : (a : Answer) → is_accepted a ≡ true → accepts_number (said_of a) ≡ true
    acceptance (refused n p) e = absurd (true≢false (sym e))
    acceptance accepted e = refl
    acceptance (runs true count) e = refl
    acceptance (runs false count) e = refl
    acceptance (tells going_on count) e = refl
    acceptance (tells none count) e = refl
    acceptance (tells (best c) count) e = refl

    going : (v : Verdict) (n k : ℕ) → said_of (tells v n) ≡ said_of (tells going_on k) → v ≡ going_on
    going going_on n k e = refl
    going none n k e = absurd (let z : ◌≡◌ {A = ℕ} 1003 1001 = ap (λ (s : Reply). s.number) e in omega arith)
    going (best c) n k e = absurd (let z : ◌≡◌ {A = ℕ} 1004 1001 = ap (λ (s : Reply). s.number) e in omega arith)

pub verdicts_exported : ExportedVerdicts
verdicts_exported = verdicts_said said_of accepts_number seen_numbers demand_3_exported

pub acceptance_exported : ExportedAcceptance
acceptance_exported = acceptance_said said_of accepts_number seen_numbers demand_3_exported

-- document 02, C-13: "A finished lifted hunt and a finished unlifted one, of one sea and one ceiling, must have the same verdict and cost."
pub lifted_exported : LiftedAgrees said_of
lifted_exported = lifted_agrees said_of demand_3_exported

-- document 02's "Hunts are then about the chart so made.", of the exported calls and of crate shelf's
pub recent_exported : Searched LeavesFinished (SaysAfter said_of)
recent_exported =
    searched LeavesFinished (SaysAfter said_of)
    (λ cs ds o p l k one inactive same. let a = demand_3_exported.agree cs ds o p l k one inactive same in (a.0, a.1, a.2))

pub recent_calls : Searched LeavesFinished (SaysAfter {A = Answer} (λ a. a))
recent_calls =
    searched LeavesFinished (SaysAfter {A = Answer} (λ a. a))
    (λ cs ds o p l k one inactive same. let a = demand_3.agree cs ds o p l k one inactive same in (a.0, a.1, a.2))

-- document 02, C-20: "with none ashore they read as before", of the exported calls and of crate search's: every answer is that of the search over all
-- vertices, to the byte of the record
pub afloat_exported : EveryAnswerIsAsWithoutList (calls_said said_of)
afloat_exported = search_afloat (calls_said said_of) (follows_demand_3 (calls_said said_of) (calls-follow said_of))

pub afloat_calls : EveryAnswerIsAsWithoutList calls
afloat_calls = search_afloat calls (follows_demand_3 calls (calls-follow {A = Answer} (λ a. a)))

-- C-17: "With q = 1, which the programs use, every answer is the old one", of both too
pub at_one_exported : EveryAnswerIsTheOldOne (calls_said said_of)
at_one_exported = search-at_one (calls_said said_of) (follows_demand_3 (calls_said said_of) (calls-follow said_of))

pub at_one-calls : EveryAnswerIsTheOldOne calls
at_one-calls = search-at_one calls (follows_demand_3 calls (calls-follow {A = Answer} (λ a. a)))

-- C-13: without lifting every answer is the one before it, whatever the denominators, of both
pub unlifted_exported : EveryUnliftedAnswerIsTheOldOne (calls_said said_of)
unlifted_exported = search_unlifted (calls_said said_of) (follows_demand_3 (calls_said said_of) (calls-follow said_of))

pub unlifted_calls : EveryUnliftedAnswerIsTheOldOne calls
unlifted_calls = search_unlifted calls (follows_demand_3 calls (calls-follow {A = Answer} (λ a. a)))

-- document 02's C-24, of the exported calls on a dispatcher
pub exported_dispatch : Dispatches exported_at (λ d. d.places)
exported_dispatch = dispatches said_at
