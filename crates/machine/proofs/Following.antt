-- AN INTERFACE THAT FOLLOWS THE MACHINE MEETS DEMAND 3 (`follows_demand_3`): where each call, on the record of a state that keeps to Kept, leaves
-- the record of the machine's next state and says what the machine says, whole lists do, and the machine's claims (Claim) are the interface's.
-- Assumes nothing.
use Rattle.std.specs.Prelude.{◌≡◌, refl, ℕ}
use Rattle.std.proofs.Common.{sym, ap, ◌∙◌, subst}
use mathlib.Core.List.{List, [], ◌∷◌}
use Rattle.machine.specs.Machine.{Opening, State, no_search}
use Rattle.machine.specs.Calls.{Call, Answer, tell, show, Verdict, going_on, none, best, step, state_after, leaves}
use Rattle.machine.specs.Kept.{KeptState}
use Rattle.machine.proofs.Preserved.{step_kept}
use Rattle.machine.specs.Demand3.{Finished, Otherwise, Says, Interface, after, AsTheMachine, SaysAfter, ShowAlikeAfter, Demand3}
use Rattle.machine.proofs.Claim.{machine_agrees, machine_ends}
use Rattle.machine.specs.Claims.Claim as machine
use Rattle.machine.specs.Claims.Following.{Follows}

-- what the machine says after a list is said by whatever answers tell and show as the machine does
module _ {A : Type 0} (f : Answer → A) (answer : Call → A) (list : Call → List ℕ) (cs : List Call)
    (tells : answer tell ≡ f (step (leaves cs) tell).answer)
    (shows : (l : List ℕ) → answer (show l) ≡ f (step (leaves cs) (show l)).answer)
    (writes : (l : List ℕ) → list (show l) ≡ (step (leaves cs) (show l)).lent) where
  pub said_as : (o : Opening) (v : Verdict) → machine.Says cs o v → Says f answer list o v
  said_as o v x = record {
    count = x.count;
    told = tells ∙ ap f x.told;
    exactly = x.exactly;
    otherwise = go v x.otherwise;
  }
    where
      go : (w : Verdict)
          → Otherwise (λ a. a) (λ c. (step (leaves cs) c).answer) (λ c. (step (leaves cs) c).lent) o w
          → Otherwise f answer list o w
      go going_on y = y
      go none y = y
      go (best c) y = record {
        tour = y.tour;
        such = y.such;
        exact = y.exact;
        least = y.least;
        first = y.first;
        accepts = λ l e. shows l ∙ ap f (y.accepts l e);
        writes = λ l e. writes l ∙ y.writes l e;
      }

module _ (i : Interface) (f : Follows i) where
  -- ---- a list of calls on the record of a state

  after_is : (cs : List Call) (s : State) → KeptState s → (after i (i.made s) cs ≡ i.made (state_after s cs)) × KeptState (state_after s cs)
  unfolding after state_after
  after_is [] s h = (refl, h)
  after_is (c ∷ cs) s h =
      let r = after_is cs (step s c).state (step_kept s c h) in
      (ap (λ (t : i.Lent). after i t cs) (f.next s h c) ∙ r.0, r.1)

  -- ---- from a fresh record

  module _ (cs : List Call) where
    left : (after i i.fresh cs ≡ i.made (leaves cs)) × KeptState (leaves cs)
    unfolding leaves
    left =
        let r = after_is cs no_search tt in
        (ap (λ (t : i.Lent). after i t cs) f.starts ∙ r.0, r.1)

    held : i.holds (after i i.fresh cs) ≡ leaves cs
    held = ap i.holds left.0 ∙ f.back (leaves cs) left.1

    -- what any next call answers and leaves in the lent list
    answer-next : (c : Call) → i.answer (after i i.fresh cs) c ≡ i.said (step (leaves cs) c).answer
    answer-next c = ap (λ (t : i.Lent). i.answer t c) left.0 ∙ f.answer (leaves cs) left.1 c

    list_next : (c : Call) → i.list (after i i.fresh cs) c ≡ (step (leaves cs) c).lent
    list_next c = ap (λ (t : i.Lent). i.list t c) left.0 ∙ f.list (leaves cs) left.1 c

    as_the_machine : AsTheMachine i cs
    as_the_machine = record {
      answered = answer-next;
      listed = list_next;
      holds = held;
      bytes = left.0;
      passes = ap i.sound left.0 ∙ f.sound (leaves cs) left.1;
    }

    says : (o : Opening) (v : Verdict) → machine.Says cs o v → SaysAfter i cs o v
    says =
        said_as i.said (i.answer (after i i.fresh cs)) (i.list (after i i.fresh cs)) cs (answer-next tell) (λ l. answer-next (show l))
        (λ l. list_next (show l))

  show_alike : (cs ds : List Call) → machine.ShowAlike cs ds → ShowAlikeAfter i cs ds
  show_alike cs ds h l = (
    answer-next cs (show l) ∙ ap i.said (h l).0 ∙ sym (answer-next ds (show l)),
    list_next cs (show l) ∙ (h l).1 ∙ sym (list_next ds (show l)),
  )

  pub follows_demand_3 : Demand3 i
  follows_demand_3 = record {
    equal = as_the_machine;
    agree = λ cs ds o p k j one inactive same.
        let a = machine_agrees cs ds o p k j one inactive same in
        (a.0, says cs o a.0 a.1, says ds p a.0 a.2, λ alike. show_alike cs ds (a.3 alike));
    ends = λ cs o total e few enough. subst Finished (sym (held cs)) (machine_ends cs o total e few enough);
  }
