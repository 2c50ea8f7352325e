-- DEMAND 3 DOWN A LIST: the answers of all its calls and the lists that were lent, one after the other, are the machine's (`lists_equal`).
-- Demand3 says so of the call that comes next after any list, and each call of a list is the next one after those before it. Assumes nothing.
use Rattle.std.specs.Prelude.{◌≡◌, ℕ}
use Rattle.std.proofs.Math.Path.{refl, ap}
use Rattle.std.proofs.Common.{sym, ◌∙◌}
use mathlib.Core.List.{List, [], ◌∷◌, ◌++◌, map}
use Rattle.machine.specs.Machine.{State, no_search}
use Rattle.machine.specs.Calls.{Call, step, state_after, leaves, answers}
use Rattle.machine.specs.Demand3.{Interface, after, Demand3}

-- what an interface answers down a list, and the lists that were lent as each call leaves its own; and the machine's lists
unfoldable pub saids : (i : Interface) → i.Lent → List Call → List i.Reply
saids i r [] = []
saids i r (c ∷ cs) = i.answer r c ∷ saids i (i.next r c) cs

unfoldable pub lists : (i : Interface) → i.Lent → List Call → List (List ℕ)
lists i r [] = []
lists i r (c ∷ cs) = i.list r c ∷ lists i (i.next r c) cs

unfoldable pub lents : State → List Call → List (List ℕ)
lents s [] = []
lents s (c ∷ cs) = (step s c).lent ∷ lents (step s c).state cs

-- one call more
after_more : (i : Interface) (r : i.Lent) (bs : List Call) (c : Call) → after i r (bs ++ (c ∷ [])) ≡ i.next (after i r bs) c
unfolding after
after_more i r [] c = refl
after_more i r (b ∷ bs) c = after_more i (i.next r b) bs c

state-more : (s : State) (bs : List Call) (c : Call) → state_after s (bs ++ (c ∷ [])) ≡ (step (state_after s bs) c).state
unfolding state_after
state-more s [] c = refl
state-more s (b ∷ bs) c = state-more (step s b).state bs c

module _ (i : Interface) (d : Demand3 i) where
  -- bs are the calls before
  saids_from : (bs cs : List Call) → saids i (after i i.fresh bs) cs ≡ map i.said (answers (leaves bs) cs)
  unfolding saids answers leaves
  saids_from bs [] = refl
  saids_from bs (c ∷ cs) =
      λ k.
      (d.equal bs).answered c k
      ∷ (ap (λ (r : i.Lent). saids i r cs) (sym (after_more i i.fresh bs c))
      ∙ saids_from (bs ++ (c ∷ [])) cs
      ∙ ap (λ (s : State). map i.said (answers s cs)) (state-more no_search bs c)) k

  lists_from : (bs cs : List Call) → lists i (after i i.fresh bs) cs ≡ lents (leaves bs) cs
  unfolding lists lents leaves
  lists_from bs [] = refl
  lists_from bs (c ∷ cs) =
      λ k.
      (d.equal bs).listed c k
      ∷ (ap (λ (r : i.Lent). lists i r cs) (sym (after_more i i.fresh bs c))
      ∙ lists_from (bs ++ (c ∷ [])) cs
      ∙ ap (λ (s : State). lents s cs) (state-more no_search bs c)) k

  pub lists_equal : (cs : List Call)
      → (saids i i.fresh cs ≡ map i.said (answers no_search cs)) × (lists i i.fresh cs ≡ lents no_search cs)
  unfolding after leaves state_after
  lists_equal cs = (saids_from [] cs, lists_from [] cs)
