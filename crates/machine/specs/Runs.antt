-- The run loop, turn by turn: it opens the top node, or it stops because the stack is empty or the count is at its limit. Proofs about
-- runs, of the machine and of code, go by these laws and never look into the loop. Assumes nothing.
use Rattle.std.specs.Prelude.{◌≡◌, refl, Bool, true, false, not, ◌&&◌, ℕ, zero, suc, ◌≤◌, ◌<◌, ltb}
use Rattle.std.proofs.Common.{ap, arith, le-ltb}
use mathlib.Core.List.{List, [], ◌∷◌}
use Rattle.std.proofs.Math.Decide.{dec_le}
use borrow.Author.Tests.{lt-ltb}
use Rattle.graph.specs.Limits.{max_count}
use Rattle.machine.specs.Machine.{Node, Progress, open_top, is_empty, finished, ran}

pub data RunTurn (s : Progress) : Type 0 where
  opens-top : (x : Node) (rest : List Node) → s.stack ≡ x ∷ rest → s.count < max_count → RunTurn s
  empty : s.stack ≡ [] → RunTurn s
  full : max_count ≤ s.count → RunTurn s

pub turn : (s : Progress) → RunTurn s
turn s = go s.stack refl (dec_le (suc s.count) max_count)
  where
    go : (st : List Node) → s.stack ≡ st → Dec (s.count < max_count) → RunTurn s
    go [] e l = empty e
    go (x ∷ rest) e (yes l) = opens-top x rest e l
    go (x ∷ rest) e (no l) = full (omega arith)

module _ (budget : ℕ) (s : Progress) where
  pub ran-opens : (x : Node) (rest : List Node) → s.stack ≡ x ∷ rest → s.count < max_count
      → ran (suc budget) s ≡ ran budget (open_top s (x ∷ rest))
  unfolding ran
  ran-opens x rest e l = rw (e, lt-ltb s.count max_count l, ran) (ap (λ (st : List Node). ran budget (open_top s st)) e)

pub ran_empty : (budget : ℕ) (s : Progress) → s.stack ≡ [] → ran budget s ≡ s
unfolding ran
ran_empty zero s e = refl
ran_empty (suc budget) s e = rw e

pub ran_full : (budget : ℕ) (s : Progress) → max_count ≤ s.count → ran budget s ≡ s
unfolding ran
ran_full zero s h = refl
ran_full (suc budget) s h = go (is_empty s.stack)
  where
    go : (b : Bool)
        → (elim (not b && ltb s.count max_count) as (λ z. Progress) [ true ↦ ran budget (open_top s s.stack) | false ↦ s ]) ≡ s
    go true = refl
    go false = rw (le-ltb s.count max_count h)

-- "On a finished hunt it changes nothing."
pub ran-finished : (budget : ℕ) (s : Progress) → finished s ≡ true → ran budget s ≡ s
unfolding ran
ran-finished zero s h = refl
ran-finished (suc budget) s h = rw (h, ran)

-- what every opening keeps, a run keeps
pub ran_keeps : (P : Progress → Type 0)
    → ((s : Progress) (x : Node) (rest : List Node) → s.stack ≡ x ∷ rest → s.count < max_count → P s → P (open_top s (x ∷ rest)))
    → (budget : ℕ) (s : Progress) → P s → P (ran budget s)
unfolding ran
ran_keeps P opened zero s h = h
ran_keeps P opened (suc budget) s h = go (turn s) (λ r i. ran_keeps P opened budget r i)
  where
    go : RunTurn s → ((r : Progress) → P r → P (ran budget r)) → P (ran (suc budget) s)
    go (opens-top x rest e l) below = rw (ran-opens budget s x rest e l) (below (open_top s (x ∷ rest)) (opened s x rest e l h))
    go (empty e) below = rw (ran_empty (suc budget) s e) h
    go (full l) below = rw (ran_full (suc budget) s l) h
