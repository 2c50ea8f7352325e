-- THE MACHINE IN PLAIN WORDS, for readers who would not take a numbering anew on trust: document 01's machine, read with document 02, whose nodes and
-- passes are over the active vertices in the graph's own numbers. A node has a mark for each of the m edges and a multiplier for each of the n
-- vertices. Line by line as machine's Machine and Calls have it, with their own definitions where these ask for no network; the quotations stand
-- there. Definitions only; that it is the machine, call for call, is shown in proofs/MachineOver.
use Rattle.std.specs.Prelude.{true, false, not, cond, ◌&&◌, List, [], ◌∷◌, map, ℕ, zero, suc, ltb, ℤ}
use Rattle.integers.specs.Multiples.{◌times◌}
use Rattle.graph.specs.Limits.{max_count}
use Rattle.graph.specs.Network.{network}
use Rattle.tree_theory.specs.Scaled.{scaled_by}
use Rattle.machine.specs.Outcomes.{no_tour, next_stack, next_incumbent, next_upper}
use Rattle.machine.specs.Machine.{Node, node_of, Opened, lifts, Opening, held, Progress, State, no_search, searching, lowered, better, finished}
use Rattle.machine.specs.Calls.{Call, opens, run, tell, show, close, Verdict, going_on, Answer, accepted, runs, tells, Reply, refuses, accepts}
use Rattle.machine.specs.Calls.{fault, verdict_of, shown_by}
use Rattle.afloat.specs.Over.{ashore, marks_over, multipliers_over}
use Rattle.afloat_passes.specs.Passing.{passes_over}
use Rattle.afloat_passes.specs.Passes.{widened_node}

-- ---- the search

-- "and opening piles it so": the first node
unfoldable pub begin_over : Opening → Progress
unfolding marks_over multipliers_over network
begin_over o =
    record {
      opening = o;
      upper = o.settings.ceiling;
      stack =
          node_of (multipliers_over (ashore o.ashore) o.graph.n o.multipliers) (marks_over (ashore o.ashore) (network o.graph)) ∷ [];
      incumbent = no_tour;
      count = 0;
    }

unfoldable pub open_node_over : Opening → ℤ → Node → Opened
unfolding network passes_over
open_node_over o upper x =
    let q = o.settings.denominator in
    passes_over (lifts o.settings) (ashore o.ashore) (scaled_by q (network o.graph)) o.settings.step (q times upper) o.settings.sweeps
    x.multipliers x.marks

unfoldable pub settled_over : Progress → List Node → Opened → Progress
unfolding lowered better network
settled_over s rest out =
    record {
      opening = s.opening;
      upper = next_upper (lowered (network s.opening.graph)) s.upper out;
      stack = next_stack rest out;
      incumbent = next_incumbent (better (network s.opening.graph)) s.incumbent out;
      count = suc s.count;
    }

unfoldable pub open_top_over : Progress → List Node → Progress
unfolding settled_over open_node_over
open_top_over s [] = s
open_top_over s (x ∷ rest) = settled_over s rest (open_node_over s.opening s.upper x)

unfoldable pub ran_over : ℕ → Progress → Progress
unfolding open_top_over
ran_over zero s = s
ran_over (suc budget) s =
    elim (not (finished s) && ltb s.count max_count) [ true ↦ ran_over budget (open_top_over s s.stack) | false ↦ s ]

-- ---- the calls

unfoldable pub opened_over_by : Opening → ℕ → Reply
unfolding begin_over held
opened_over_by o zero = accepts (searching (begin_over (held o))) accepted
opened_over_by o (suc k) = refuses no_search (opens o) (suc k)

unfoldable pub run_over_by : ℕ → Progress → Reply
unfolding ran_over
run_over_by budget s = let r : Progress = ran_over budget s in accepts (searching r) (runs (finished r) r.count)

unfoldable pub verdict_over : Progress → Verdict
unfolding network
verdict_over s = cond (finished s) (verdict_of (network s.opening.graph) s.incumbent) going_on

unfoldable pub step_over : State → Call → Reply
unfolding opened_over_by fault run_over_by verdict_over shown_by
step_over no_search (opens o) = opened_over_by o (fault o)
step_over no_search (run budget) = refuses no_search (run budget) 20
step_over no_search tell = refuses no_search tell 20
step_over no_search (show l) = refuses no_search (show l) 20
step_over no_search close = refuses no_search close 20
step_over (searching s) (opens o) = refuses (searching s) (opens o) 21
step_over (searching s) (run budget) = run_over_by budget s
step_over (searching s) tell = accepts (searching s) (tells (verdict_over s) s.count)
step_over (searching s) (show l) = shown_by s l (finished s) s.incumbent
step_over (searching s) close = accepts no_search accepted

unfoldable pub state_after_over : State → List Call → State
unfolding step_over
state_after_over s [] = s
state_after_over s (c ∷ cs) = state_after_over (step_over s c).state cs

unfoldable pub answers_over : State → List Call → List Answer
unfolding step_over
answers_over s [] = []
answers_over s (c ∷ cs) = (step_over s c).answer ∷ answers_over (step_over s c).state cs

unfoldable pub leaves_over : List Call → State
unfolding state_after_over
leaves_over cs = state_after_over no_search cs

-- ---- a state of the machine with its nodes' multipliers for all vertices, 0 for an inactive one

abbrev pub widened_stack : Opening → List Node → List Node
widened_stack o xs = map (widened_node (ashore o.ashore) o.graph.n) xs

abbrev pub widened_search : Progress → Progress
widened_search s =
    record {
      opening = s.opening;
      upper = s.upper;
      stack = widened_stack s.opening s.stack;
      incumbent = s.incumbent;
      count = s.count;
    }

abbrev pub widened_state : State → State
widened_state no_search = no_search
widened_state (searching s) = searching (widened_search s)

abbrev pub widened_reply : Reply → Reply
widened_reply r = record { state = widened_state r.state; answer = r.answer; lent = r.lent }
