-- What the call answers and which graph it gives, for every input. Definitions only.
use Rattle.std.specs.Prelude.{Bool, cond, not, ◌&&◌, List, [], ◌∷◌, ℕ, zero, suc, eqb, leb, length, ℤ, Result, Ok, Err}
use Rattle.std.specs.Option.{unwrap_or}
use Rattle.integers.specs.Range.{within}
use Rattle.graph.specs.declared.Graph.{Graph}
use Rattle.graph.specs.Limits.{max_cost}
use Rattle.graph.specs.Valid.{valid}
use Rattle.recent.specs.Costs.{Entry, log_of, recent_graph}
use Rattle.graph.specs.declared.refusals.Refused.{Refused}
use Rattle.graph.specs.Refusals.{number}

-- "w from 1 to 32"
abbrev pub max_window : ℕ
max_window = 32

-- "Each answer is the number and a place"
pub data Reply : Type 0 where
  made : Reply
  refused : ℕ → ℕ → Reply

-- "otherwise 0" is the place
unfoldable pub meaning : Result (Unit {0}) Refused → Reply
meaning (Ok _) = made
meaning (Err r) = refused (number r.refusal) (unwrap_or r.place 0)

-- "38 when w is out of range"
abbrev pub window_fault : ℕ → ℕ
window_fault w = cond (not (leb 1 w && leb w max_window)) 38 0

-- what is refused before the log is read, of lists that are so long; 0 where nothing is
unfoldable pub first_fault : Graph → ℕ → ℕ → ℕ → ℕ
first_fault g w edges times =
    cond (not (valid g)) 15
    (cond (not (eqb edges times)) 11
    (window_fault w))

-- the entry names an edge, 1 to m, and a time in the cost range
unfoldable pub entry_ok : ℕ → Entry → Bool
entry_ok m e = (leb 1 e.edge && leb e.edge m) && within max_cost e.time

-- the place of the first entry that is not so, where the log's first entry has place p; 0 where every one is
unfoldable pub bad_from : ℕ → ℕ → List Entry → ℕ
unfolding entry_ok
bad_from m p [] = 0
bad_from m p (e ∷ log) = cond (entry_ok m e) (bad_from m (suc p) log) p

-- "39 when a log entry names no leg or a time outside the cost range, the first such entry's place given, from 1"
abbrev pub unless_bad : ℕ → Reply
unless_bad zero = made
unless_bad (suc p) = refused 39 (suc p)

-- "Both after 15 and 11: 38 when w is out of range; then 39"; "A log whose legs and times differ in number comes under 11."
unfoldable pub recent_reply : Graph → ℕ → List ℕ → List ℤ → Reply
unfolding bad_from log_of
recent_reply g w edges times =
    cond (not (valid g)) (refused 15 0)
    (cond (not (eqb (length edges) (length times))) (refused 11 0)
    (cond (not (leb 1 w && leb w max_window)) (refused 38 0)
    (unless_bad (bad_from g.m 1 (log_of edges times)))))

-- "and the chart unchanged"
abbrev pub unless_refused : Reply → Graph → Graph → Graph
unless_refused made g h = h
unless_refused (refused number place) g h = g

unfoldable pub recent_leaves : Graph → ℕ → List ℕ → List ℤ → Graph
unfolding recent_reply recent_graph
recent_leaves g w edges times = unless_refused (recent_reply g w edges times) g (recent_graph w (log_of edges times) g)
