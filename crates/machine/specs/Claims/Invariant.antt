-- The first node of a search. (What holds of a search after every list of calls: proofs/Invariant.)
use Rattle.machine.specs.Machine.{Node, node_of, marks_of, Opening, active_network, active_multipliers}

-- ---- one search, whose run calls have allowed `total` openings so far

-- the node that an opening stores
abbrev pub first_node : Opening → Node
first_node o = node_of (active_multipliers o) (marks_of (active_network o))
