-- The record that is left is the one that runs to what the machine runs to, where nodes are opened and where none is. It then stands for the reply.
use Rattle.std.proofs.Common.{rules, ◌≡◌, refl, sym, subst, Err, inl, inr, arith}
use Rattle.machine.specs.Machine.{ran}
use Rattle.machine.specs.Calls.{run}
use Rattle.search.specs.Record.{progress_of}
use Rattle.search.specs.Runs.TopNode.{Holds}
use Rattle.search.specs.Runs.Running.{run_rests, run_finished, run_going}
use Rattle.search.proofs.Closed.{parts, closed-refused}
use Rattle.search.specs.declared.Search.{Search}
use Rattle.search.proofs.Search.run.Goals as goal
use Rattle.search.proofs.Search.run.Goals.{then-budget-gt0+then-self-gt0, else-budget-gt0, else-budget-gt0-via-then-budget-gt0+else-self-gt0, else-budget-gt0-via-else-budget-gt0}

pub returns-in_err-opened : goal.returns-in_err-opened
returns-in_err-opened c =
    let s : Search = c.args.self.now in
    let r = c.in_err-opened.field-0.0 in
    let e : c.from_residual.result ≡ Err r = search rules in
    rw e (parts s s (run c.args.budget) _ (closed-refused s c.opened.ensures.typed (run c.args.budget) tt r c.in_err-opened.ensures.fault).0 refl)

pub returns-then-self-eq0 : goal.returns-then-self-eq0
returns-then-self-eq0 c =
    let s : Search = c.args.self.now in
    let o = c.in_ok-opened.ensures.passed in
    let h : Holds c.if-budget-gt0.self (ran c.args.budget (progress_of s)) = elim c.if-budget-gt0.branch [
      | then-budget-gt0+then-self-gt0 w ↦ subst (λ (r : Search). Holds r (ran c.args.budget (progress_of s))) (sym w.self-is) w.advance.ensures
      | else-budget-gt0 w ↦ subst (λ (r : Search). Holds r (ran c.args.budget (progress_of s))) (sym w.self-is)
          (run_rests s o c.args.budget (elim w.else-budget-gt0.branch [
            | else-budget-gt0-via-then-budget-gt0+else-self-gt0 v ↦ inr (omega (arith, v.if-self-gt0.false))
            | else-budget-gt0-via-else-budget-gt0 v ↦ inl (omega (arith, v.if-budget-gt0.false))
          ]))
    ] in
    run_finished s o c.args.budget _ h c.if-self-eq0.true

pub returns : goal.returns
returns c =
    let s : Search = c.args.self.now in
    let o = c.in_ok-opened.ensures.passed in
    let h : Holds c.if-budget-gt0.self (ran c.args.budget (progress_of s)) = elim c.if-budget-gt0.branch [
      | then-budget-gt0+then-self-gt0 w ↦ subst (λ (r : Search). Holds r (ran c.args.budget (progress_of s))) (sym w.self-is) w.advance.ensures
      | else-budget-gt0 w ↦ subst (λ (r : Search). Holds r (ran c.args.budget (progress_of s))) (sym w.self-is)
          (run_rests s o c.args.budget (elim w.else-budget-gt0.branch [
            | else-budget-gt0-via-then-budget-gt0+else-self-gt0 v ↦ inr (omega (arith, v.if-self-gt0.false))
            | else-budget-gt0-via-else-budget-gt0 v ↦ inl (omega (arith, v.if-budget-gt0.false))
          ]))
    ] in
    run_going s o c.args.budget _ h c.if-self-eq0.false
