-- The calls on a search with their arguments, their answers, the refusals in their order, and whole lists of calls. Nothing is taken from
-- a record; refusal 24 never comes up here. Definitions only.
use Rattle.std.specs.Prelude.{Bool, true, false, not, cond, ◌&&◌, List, [], ◌∷◌, map, ℕ, zero, suc, ◌+◌, eqb, leb, length, ℤ}
use Rattle.lists.specs.Bools.{bit}
use Rattle.graph.specs.Limits.{max_sweeps, max_step}
use Rattle.graph.specs.Valid.{valid}
use Rattle.graph.specs.Network.{Network, network}
use Rattle.tree_theory.specs.Inputs.{multipliers_fit, ceiling_fits, denominator_fault, or_else}
use Rattle.afloat.specs.Over.{ashore_fault}
use Rattle.machine.specs.Outcomes.{Incumbent, no_tour, a_tour}
use Rattle.machine.specs.Machine.{marks_of, frees, Opening, active_network, Progress, State, no_search, searching, held, begin, cost_of, finished, ran}

-- "opening, run, tell, show and close calls"; show lends a list
pub data Call : Type 0 where
  opens : Opening → Call
  run : ℕ → Call
  tell : Call
  show : List ℕ → Call
  close : Call

-- "the verdict (going on, none, or the best cost)"
pub data Verdict : Type 0 where
  going_on none : Verdict
  best : ℤ → Verdict

pub data Answer : Type 0 where
  -- "a refusal's number and place"
  refused : ℕ → ℕ → Answer
  accepted : Answer
  -- "Run answers 'going on' or 'finished', and the count." True is finished
  runs : Bool → ℕ → Answer
  -- "Tell gives the verdict .. and count."
  tells : Verdict → ℕ → Answer

-- the state after a call, its answer, and the lent list as the call leaves it (the empty list where none is lent)
pub record Reply : Type 0 where
  pub state : State
  pub answer : Answer
  pub lent : List ℕ

-- ---- refusals

abbrev pub lent_by : Call → List ℕ
lent_by (opens o) = []
lent_by (run budget) = []
lent_by tell = []
lent_by (show l) = l
lent_by close = []

-- "Each answer is the number and a place: .. otherwise 0"; "A refused call leaves it too"
abbrev pub refuses : State → Call → ℕ → Reply
refuses s c number = record { state = s; answer = refused number 0; lent = lent_by c }

-- an accepted call that lends nothing
abbrev pub accepts : State → Answer → Reply
accepts s a = record { state = s; answer = a; lent = [] }

-- "15 a chart value that breaks 'Legs and marks'; 11 a list of wrong length (dues n, ..); 12 a due out of range or d(1) not 0; 13 ceiling;
-- 14 sweeps or step"; document 02, C-17: "32 when q is out of range, tested after 14"; C-20: "The list's length comes under 11. 35 .. follows 32":
-- the first that applies to an opening, or 0
unfoldable pub fault : Opening → ℕ
unfolding valid multipliers_fit ceiling_fits denominator_fault ashore_fault
fault o =
    cond (not (valid o.graph)) 15
    (cond (not (eqb (length o.multipliers) o.graph.n && eqb (length o.ashore) o.graph.n)) 11
    (cond (not (multipliers_fit o.multipliers)) 12
    (cond (not (ceiling_fits o.settings.ceiling)) 13
    (cond (not (leb o.settings.sweeps max_sweeps && leb o.settings.step max_step)) 14
    (or_else (denominator_fault o.settings.denominator) (ashore_fault o.ashore o.graph.n))))))

-- ---- the calls

-- an opening while no search is open, by the number of its fault
unfoldable pub opened_by : Opening → ℕ → Reply
unfolding begin held
opened_by o zero = accepts (searching (begin (held o))) accepted
opened_by o (suc k) = refuses no_search (opens o) (suc k)

-- a run
unfoldable pub run_by : ℕ → Progress → Reply
unfolding ran
run_by budget s = let r : Progress = ran budget s in accepts (searching r) (runs (finished r) r.count)

abbrev pub verdict_of : Network → Incumbent (List Bool) → Verdict
verdict_of g no_tour = none
verdict_of g (a_tour r) = best (cost_of g r)

-- "The verdict is going on until the hunt is finished"
unfoldable pub verdict : Progress → Verdict
unfolding cost_of network
verdict s = cond (finished s) (verdict_of (active_network s.opening) s.incumbent) going_on

-- "1 in, 0 out"
unfoldable pub tour_bytes : List Bool → List ℕ
tour_bytes r = map bit r

-- "22 show while going on; 23 show after 'none'"; 11 a list of wrong length; "Show writes the best round to a list of m bytes"
unfoldable pub shown_by : Progress → List ℕ → Bool → Incumbent (List Bool) → Reply
unfolding tour_bytes
shown_by s l false i = refuses (searching s) (show l) 22
shown_by s l true no_tour = refuses (searching s) (show l) 23
shown_by s l true (a_tour r) =
    cond (eqb (length l) s.opening.graph.m)
    (record { state = searching s; answer = accepted; lent = tour_bytes r })
    (refuses (searching s) (show l) 11)

-- "20 no hunt is open (run, tell, show, close); 21 one is open (opening)", "tested before all input";
-- "Tell and show leave the state as it is, close makes it 'no hunt'."
unfoldable pub step : State → Call → Reply
unfolding opened_by fault run_by verdict shown_by
step no_search (opens o) = opened_by o (fault o)
step no_search (run budget) = refuses no_search (run budget) 20
step no_search tell = refuses no_search tell 20
step no_search (show l) = refuses no_search (show l) 20
step no_search close = refuses no_search close 20
step (searching s) (opens o) = refuses (searching s) (opens o) 21
step (searching s) (run budget) = run_by budget s
step (searching s) tell = accepts (searching s) (tells (verdict s) s.count)
step (searching s) (show l) = shown_by s l (finished s) s.incumbent
step (searching s) close = accepts no_search accepted

-- ---- lists of calls, the first one first

-- "Each call has arguments of its own and gets the record as the call before left it, refused or not"
unfoldable pub state_after : State → List Call → State
unfolding step
state_after s [] = s
state_after s (c ∷ cs) = state_after (step s c).state cs

unfoldable pub answers : State → List Call → List Answer
unfolding step
answers s [] = []
answers s (c ∷ cs) = (step s c).answer ∷ answers (step s c).state cs

-- "Demand 3's lists begin on a fresh record."
unfoldable pub leaves : List Call → State
unfolding state_after
leaves cs = state_after no_search cs

-- "Accepted means not refused."
abbrev pub is_accepted : Answer → Bool
is_accepted (refused n p) = false
is_accepted accepted = true
is_accepted (runs done count) = true
is_accepted (tells v count) = true

-- "The hunt that a list leaves is that of its last accepted opening, if no accepted close follows; its run calls are the accepted ones
-- since.": that opening, and what those runs allow in all
pub data History : Type 0 where
  no_opening : History
  since : Opening → ℕ → History

abbrev pub granted : ℕ → History → History
granted budget no_opening = no_opening
granted budget (since o total) = since o (total + budget)

-- what an accepted call makes of it
abbrev pub noted : Call → History → History
noted (opens o) h = since o 0
noted (run budget) h = granted budget h
noted tell h = h
noted (show l) h = h
noted close h = no_opening

unfoldable pub history_after : State → History → List Call → History
unfolding step
history_after s h [] = h
history_after s h (c ∷ cs) =
    history_after (step s c).state (cond (is_accepted (step s c).answer) (noted c h) h) cs

unfoldable pub history : List Call → History
unfolding history_after
history cs = history_after no_search no_opening cs

-- "k legs being free at the start": of those that the first node has (document 02, C-20)
unfoldable pub free_at_start : Opening → ℕ
unfolding frees marks_of network
free_at_start o = frees (marks_of (active_network o))
