-- What each exported call answers in numbers: document 01's number, 0 where the call is accepted, and a place, a value and a count of
-- nodes, 0 where the answer has none. Definitions only.
use Rattle.std.specs.Prelude.{◌≡◌, cond, List, ℕ, ℤ, pos, true, false, Option, None, Some}
use Rattle.graph.specs.declared.Graph.{Graph}
use Rattle.graph.specs.Valid.{valid}
use Rattle.charts.specs.Answers.{Outcome, accepted, refused}
use Rattle.charts.specs.Chart.{ReadResult}
use Rattle.onetree.specs.Answers as one
use Rattle.recent.specs.Answers as recent
use Rattle.machine.specs.Calls as machine
use Rattle.machine.specs.Calls.{going_on, none, best}
use Rattle.sailing.specs.Simulation as sailing
use Rattle.ffi.specs.declared.Reply.{Reply}
use Rattle.ffi.specs.declared.simulations.Sailed.{Sailed}

-- a number and a place alone
abbrev pub plain : ℕ → ℕ → Reply
plain number place = record { number = number; place = place; value = pos 0; nodes = 0 }

-- ---- a graph

abbrev pub said_outcome : Outcome → Reply
said_outcome accepted = plain 0 0
said_outcome (refused number place) = plain number place

-- "15 a chart value that breaks 'Legs and marks'"
abbrev pub check_outcome : Graph → Outcome
check_outcome g = cond (valid g) accepted (refused 15 0)

-- the lent graph as reading leaves it: the graph that was read, or, where the bytes are refused, the graph as it was
abbrev pub filled : Graph → Graph → Outcome → Graph
filled g h accepted = h
filled g h (refused number place) = g

abbrev pub Fills : Graph → ReadResult → Reply → Graph → Type 0
Fills g r said after = (said ≡ said_outcome r.outcome) × (after ≡ filled g r.graph r.outcome)

-- the lent graph with the costs that a log makes: where the log is refused the graph is as it was
abbrev pub said_recent : recent.Reply → Reply
said_recent recent.made = plain 0 0
said_recent (recent.refused number place) = plain number place

abbrev pub RecentFills : Graph → ℕ → List ℕ → List ℤ → Reply → Graph → Type 0
RecentFills g w edges times said after =
    (said ≡ said_recent (recent.recent_reply g w edges times)) × (after ≡ recent.recent_leaves g w edges times)

-- ---- the tree call and the rule call: the value is the bound

abbrev pub bound : ℤ → Reply
bound b = record { number = 0; place = 0; value = b; nodes = 0 }

-- 1,000 is 'no tree' or 'dead'; no refusal has it
abbrev pub said_bound : Option ℤ → Reply
said_bound None = plain 1000 0
said_bound (Some b) = bound b

abbrev pub said_reply : one.Reply → Reply
said_reply (one.refused number place) = plain number place
said_reply one.none = said_bound None
said_reply (one.bounded b) = said_bound (Some b)

-- ---- the calls on a record: the value is the best cost, the nodes are the count

abbrev pub counted : ℕ → ℤ → ℕ → Reply
counted number value count = record { number = number; place = 0; value = value; nodes = count }

-- 1,001 'going on', 1,002 'finished', 1,003 'none', 1,004 'the best cost'; no refusal has one of these
abbrev pub said_of : machine.Answer → Reply
said_of (machine.refused number place) = plain number place
said_of machine.accepted = plain 0 0
said_of (machine.runs false count) = counted 1001 (pos 0) count
said_of (machine.runs true count) = counted 1002 (pos 0) count
said_of (machine.tells going_on count) = counted 1001 (pos 0) count
said_of (machine.tells none count) = counted 1003 (pos 0) count
said_of (machine.tells (best c) count) = counted 1004 c count

-- ---- a simulation: the total and the last state

abbrev pub said_sailing : sailing.Reply → Sailed
said_sailing (sailing.sailed total state) = record { number = 0; place = 0; total = total; state = state }
said_sailing (sailing.refused number place) = record { number = number; place = place; total = pos 0; state = 0 }
