-- DEMAND 3 HOLDS OF THE SEVEN CALLS: the five follow the machine, so the seven do (`shelf_list`); a list's path of plain calls has the state and
-- the history that the list leaves, so the machine's claims are the list's. Assumes nothing.
use Rattle.std.specs.Prelude.{◌≡◌, List, ℕ, suc, ◌-◌, ◌^◌, ◌≤◌}
use Rattle.std.proofs.Math.Path.{sym}
use Rattle.std.proofs.Common.{ap, ◌∙◌, subst, arith}
use Rattle.machine.specs.Machine.{Opening, State}
use Rattle.machine.specs.Calls.{Call, tell, show, Verdict, step, History, no_opening, since, free_at_start}
use Rattle.machine.specs.Calls as plainly
use Rattle.machine.specs.Demand3.{Finished}
use Rattle.machine.specs.Demand3 as machine
use Rattle.machine.proofs.Claim.{machine_agrees, machine_ends}
use Rattle.machine.proofs.Following.{said_as}
use Rattle.machine.specs.Claims.Claim as claim
use Rattle.lent_records.specs.Records.{record_of, AsTheMachine}
use Rattle.search_records.specs.Searching.{search_machine, searches, note}
use Rattle.search_records.specs.Calls.{search_calls}
use Rattle.search_records.specs.Same.{same-leaves, same-history, calls-follow}
use Rattle.shelf_theory.specs.Shelves.{Shelved, plain}
use Rattle.shelf_theory.specs.Paths.{path}
use Rattle.shelf_theory.proofs.Paths.{current_is, history_is}
use Rattle.shelf_theory.specs.Paths as paths
use Rattle.shelf_theory.specs.ShelfFollows.{shelf_list}
use Rattle.shelf_theory.proofs.ShelfFollows.{plain-answer, plain_list, restores_record}
use Rattle.shelf.specs.Demand3.{AnyCall, search_left, history, LeavesFinished, calls_said, SaysAfter, ShowAlikeAfter, Demand3, LiftedAgrees}

-- ---- the path of a list

abbrev pub path_of : List AnyCall → List Call
path_of cs = path search_machine searches cs

module _ (cs : List AnyCall) where
  pub same_past : plainly.history (path_of cs) ≡ history cs
  unfolding history paths.history
  same_past = same-history (path_of cs) ∙ sym (history_is search_machine searches note no_opening cs)

  pub same-state : plainly.leaves (path_of cs) ≡ search_left cs
  same-state = same-leaves (path_of cs) ∙ sym (current_is search_machine searches cs)

  leaves-finished : (o : Opening) → LeavesFinished cs o → machine.LeavesFinished (path_of cs) o
  leaves-finished o l = record {
    total = l.total;
    opened = same_past ∙ l.opened;
    done = subst Finished (sym same-state) l.done;
  }

module _ {A : Type 0} (f : plainly.Answer → A) where
  equal : (cs : List AnyCall) → AsTheMachine (calls_said f) cs
  equal cs = shelf_list searches (search_calls f) (calls-follow f) cs

  module _ (cs : List AnyCall) where
    -- what the next call answers and leaves in the lent list is what the machine does after the path
    answer-next : (c : Call) → (calls_said f).answer (record_of (calls_said f) cs) (plain c) ≡ f (step (plainly.leaves (path_of cs)) c).answer
    answer-next c =
        plain-answer searches (search_calls f) (calls-follow f) cs c
        ∙ ap (λ (s : State). f (step s c).answer) (sym (same-leaves (path_of cs)))

    list_next : (c : Call) → (calls_said f).list (record_of (calls_said f) cs) (plain c) ≡ (step (plainly.leaves (path_of cs)) c).lent
    list_next c =
        plain_list searches (search_calls f) (calls-follow f) cs c
        ∙ ap (λ (s : State). (step s c).lent) (sym (same-leaves (path_of cs)))

    says : (o : Opening) (v : Verdict) → claim.Says (path_of cs) o v → SaysAfter f cs o v
    says =
        said_as f (λ c. (calls_said f).answer (record_of (calls_said f) cs) (plain c)) (λ c. (calls_said f).list (record_of (calls_said f) cs) (plain c))
        (path_of cs) (answer-next tell) (λ l. answer-next (show l)) (λ l. list_next (show l))

    finishes : (o : Opening) (total : ℕ) → history cs ≡ since o total → free_at_start o ≤ 62 → 2 ^ suc (free_at_start o) - 1 ≤ total
        → Finished ((calls_said f).holds (record_of (calls_said f) cs)).current
    finishes o total e few enough =
        subst Finished (same-state cs ∙ sym (ap (λ (d : Shelved State). d.current) (equal cs).holds))
        (machine_ends (path_of cs) o total (same_past cs ∙ e) few enough)

  show_alike : (cs ds : List AnyCall) → claim.ShowAlike (path_of cs) (path_of ds) → ShowAlikeAfter f cs ds
  show_alike cs ds h l = (
    answer-next cs (show l) ∙ ap f (h l).0 ∙ sym (answer-next ds (show l)),
    list_next cs (show l) ∙ (h l).1 ∙ sym (list_next ds (show l)),
  )

  -- where no refusal is said as 'accepted' is
  pub demand_3_said : ((n : ℕ) → ¬ (f (plainly.refused (suc n) 0) ≡ f plainly.accepted)) → Demand3 f
  demand_3_said apart = record {
    equal = equal;
    agree = λ cs ds o p l k one inactive same.
        let a = machine_agrees (path_of cs) (path_of ds) o p (leaves-finished cs o l) (leaves-finished ds p k) one inactive same in
        (a.0, says cs o a.0 a.1, says ds p a.0 a.2, λ alike. show_alike cs ds (a.3 alike));
    ends = finishes;
    restores = restores_record searches (search_calls f) (calls-follow f) apart;
  }

-- DEMAND 3 of this crate's calls and crate search's
pub demand_3 : Demand3 {A = plainly.Answer} (λ a. a)
demand_3 = demand_3_said {A = plainly.Answer} (λ a. a) (λ n e. let z : ◌≡◌ {A = ℕ} 0 1 = cc in omega arith)

-- A FINISHED LIFTED SEARCH AND A FINISHED UNLIFTED ONE, of one graph, with the same vertices inactive, and one ceiling, have the same verdict and cost
pub lifted_agrees : {A : Type 0} (f : plainly.Answer → A) → Demand3 f → LiftedAgrees f
lifted_agrees f demand cs ds o p l k on off one inactive same =
    let a = demand.agree cs ds o p l k one inactive same in
    (a.0, (a.1.count, a.1.told), (a.2.count, a.2.told))

pub lifted_calls : LiftedAgrees {A = plainly.Answer} (λ a. a)
lifted_calls = lifted_agrees {A = plainly.Answer} (λ a. a) demand_3
