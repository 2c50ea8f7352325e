-- ANY MACHINE: its states, its calls with their answers and lent lists, which answers are refusals; and whole lists of calls on it. Nothing is
-- said of what a state is, so what is proved over a Machine stays when a state gains a field or a call an argument. Assumes nothing.
--     Machine           states, calls, answers
--     Searches m        which states have a search open
--     after m s cs      the state that a list of calls leaves from s; `leaves m cs` from the machine's first state
--     noted m note ..   what is noted beside the states of a list, call by call, as a search's history is
use Rattle.std.specs.Prelude.{◌≡◌, Bool, true, false, ℕ}
use Rattle.std.proofs.Math.Path.{refl}
use mathlib.Core.List.{List, [], ◌∷◌, ◌++◌}

pub record Machine : Type 1 where
  pub State : Type 0
  pub Call : Type 0
  pub Answer : Type 0
  -- the state of a fresh record
  pub begin : State
  -- the state after a call, its answer, and the lent list as the call leaves it
  pub next : State → Call → State
  pub answer : State → Call → Answer
  pub lent : State → Call → List ℕ
  -- the lent list as the caller hands it over
  pub given : Call → List ℕ
  -- a refusal's number, at place 0
  pub refused : ℕ → Answer
  pub is_accepted : Answer → Bool
  -- "Accepted means not refused."
  pub refusal : (n : ℕ) → is_accepted (refused n) ≡ false

-- a machine whose states have a search open or none, as its first state has
pub record Searches (m : Machine) : Type 0 where
  pub is_open : m.State → Bool
  pub closed : is_open m.begin ≡ false
  -- the answer of an accepted call that tells nothing more
  pub accepted : m.Answer
  pub acceptance : m.is_accepted accepted ≡ true

module _ (m : Machine) where
  -- ---- lists of calls, the first one first

  unfoldable pub after : m.State → List m.Call → m.State
  after s [] = s
  after s (c ∷ cs) = after (m.next s c) cs

  -- the state that a list leaves
  unfoldable pub leaves : List m.Call → m.State
  unfolding after
  leaves cs = after m.begin cs

  pub after-append : (s : m.State) (cs ds : List m.Call) → after s (cs ++ ds) ≡ after (after s cs) ds
  unfolding after
  after-append s [] ds = refl
  after-append s (c ∷ cs) ds = after-append (m.next s c) cs ds

  pub leaves-append : (cs ds : List m.Call) → leaves (cs ++ ds) ≡ after (leaves cs) ds
  unfolding leaves
  leaves-append cs ds = after-append m.begin cs ds

  pub leaves_last : (cs : List m.Call) (c : m.Call) → leaves (cs ++ (c ∷ [])) ≡ m.next (leaves cs) c
  unfolding leaves after
  leaves_last cs c = after-append m.begin cs (c ∷ [])

  -- ---- what is noted beside the states of a list

  module _ {X : Type 0} (note : m.State → m.Call → X → X) where
    unfoldable pub noted : m.State → X → List m.Call → X
    noted s x [] = x
    noted s x (c ∷ cs) = noted (m.next s c) (note s c x) cs

    pub noted_last : (s : m.State) (x : X) (cs : List m.Call) (c : m.Call)
        → noted s x (cs ++ (c ∷ [])) ≡ note (after s cs) c (noted s x cs)
    unfolding noted after
    noted_last s x [] c = refl
    noted_last s x (b ∷ cs) c = noted_last (m.next s b) (note s b x) cs c
