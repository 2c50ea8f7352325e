-- STRETCHES OF CALLS in which no search is added or closed (`Quiet`), and how many of their calls are accepted turns (`turns`), as C-24's claim on
-- fairness speaks of them: "every list of accepted turns in which no hunt is added or closed". Other calls, refused ones too, may stand between the
-- turns. Definitions only.
use Rattle.std.specs.Prelude.{◌≡◌, Bool, false, List, [], ◌∷◌, ℕ, ◌+◌}
use Rattle.lists.specs.Bools.{bit}
use Rattle.lent_records.specs.Machine.{Machine, Searches}
use Rattle.dispatch_theory.specs.Dispatcher.{Calls, Dispatcher, DispatchCall, add, turn, tell_at, show_at, close_at, dispatch_answer, dispatch_next, is_taken}

module _ (m : Machine) (o : Searches m) (h : Calls m) where
  -- no accepted add, no accepted close
  abbrev pub Still : Dispatcher m.State → DispatchCall h.Opening → Type 0
  Still d (add a) = (is_taken m o h (dispatch_answer m o h d (add a)) ≡ false)
  Still d (turn p) = Unit {0}
  Still d (tell_at i) = Unit {0}
  Still d (show_at i l) = Unit {0}
  Still d (close_at i) = (is_taken m o h (dispatch_answer m o h d (close_at i)) ≡ false)

  abbrev pub Quiet : Dispatcher m.State → List (DispatchCall h.Opening) → Type 0
  Quiet d [] = Unit {0}
  Quiet d (x ∷ xs) = Still d x × Quiet (dispatch_next m o h d x) xs

  -- the accepted turns
  abbrev pub is_turn : Dispatcher m.State → DispatchCall h.Opening → Bool
  is_turn d (add a) = false
  is_turn d (turn p) = is_taken m o h (dispatch_answer m o h d (turn p))
  is_turn d (tell_at i) = false
  is_turn d (show_at i l) = false
  is_turn d (close_at i) = false

  abbrev pub turns : Dispatcher m.State → List (DispatchCall h.Opening) → ℕ
  turns d [] = 0
  turns d (x ∷ xs) = bit (is_turn d x) + turns (dispatch_next m o h d x) xs
