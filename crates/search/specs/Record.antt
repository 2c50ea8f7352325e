-- The search record as a state of document 01's machine (`decode`), and a state as a record (`encode`). Definitions only; Inverse.antt
-- shows that each undoes the other. (Document 01's words: hunt record, pile, best round.)
use Rattle.std.specs.Prelude.{Bool, true, false, cond, List, [], ◌∷◌, ℕ, zero, suc, ◌+◌, ◌*◌, ◌/◌, ◌%◌, eqb, length, get_or, replicate, ℤ, pos}
use Rattle.lists.specs.Bools.{bit}
use Rattle.lists.specs.Fill.{fill, fit}
use Rattle.graph.specs.Limits.{max_vertices, max_edges}
use Rattle.graph.specs.Edgeless.{edgeless}
use Rattle.machine.specs.declared.Settings.{Settings}
use Rattle.machine.specs.Outcomes.{Incumbent, no_tour, a_tour}
use Rattle.thinning.specs.Ranks.{rank}
use Rattle.afloat.specs.Over.{active, ashore}
use Rattle.machine.specs.Machine.{Marks, Node, node_of, Opening, Progress, State, no_search, searching, opening_of}
use Rattle.mark_rows.specs.MarkRows.{node_words, rows_of, marks_in_rows}
use Rattle.node.specs.Marks.{bytes_of_tour}
use Rattle.search.specs.declared.Search.{Search}

-- a stack has room for 22 nodes, six words and 20 multipliers each: at most two more wait than there are active vertices
abbrev pub max_nodes : ℕ
max_nodes = 22

abbrev pub stack_size : ℕ
stack_size = 132

abbrev pub carried_size : ℕ
carried_size = 440

-- the settings of a record where no search is open
abbrev pub no_settings : Settings
no_settings = record { ceiling = pos 0; sweeps = 0; step = 0; denominator = 0; lifting = 0 }

-- "A fresh hunt record has no hunt open"
unfoldable pub fresh : Search
fresh =
    record {
      settings = no_settings;
      upper = pos 0;
      count = 0;
      stack = replicate stack_size 0;
      depth = 0;
      graph = edgeless 0;
      multipliers = replicate max_vertices (pos 0);
      carried = replicate carried_size (pos 0);
      best = replicate max_edges 0;
      ashore = replicate max_vertices 0;
      «open» = 0;
      has_best = 0;
    }

-- ---- the stack: node p, counted from 0 at the bottom, has six words from place 6 · p of the stack's words on, and its multiplier of the active
-- vertex that is number j + 1 in their order at place 20 · p + j of what the nodes carry. Document 02, C-19: "store a node's required legs in one row
-- of 64-bit words and its struck legs in another": three words of the one row, then three of the other (crate mark_rows)

-- the words of node p
unfoldable pub rows_at : List ℕ → ℕ → List ℕ
unfolding fill
rows_at l p = fill node_words (λ j. get_or l (node_words * p + j) 0)

-- its marks
unfoldable pub marks_at : ℕ → List ℕ → ℕ → Marks
unfolding marks_in_rows rows_at
marks_at m l p = marks_in_rows m (rows_at l p)

-- and its multipliers
unfoldable pub multipliers_at : ℕ → List ℤ → ℕ → List ℤ
multipliers_at n e p = fill n (λ j. get_or e (max_vertices * p + j) (pos 0))

-- the nodes below depth d, the top first
unfoldable pub nodes : ℕ → ℕ → List ℕ → List ℤ → ℕ → List Node
nodes n m l e zero = []
nodes n m l e (suc p) = node_of (multipliers_at n e p) (marks_at m l p) ∷ nodes n m l e p

-- a node of nothing
abbrev pub no_node : Node
no_node = node_of [] []

-- node p from the bottom
unfoldable pub node_at : List Node → ℕ → Node
node_at [] p = no_node
node_at (x ∷ rest) p = cond (eqb p (length rest)) x (node_at rest p)

-- what node p has at place j, where v x j is what a node x has there
unfoldable pub cell : {A : Type 0} → (Node → ℕ → A) → List Node → ℕ → ℕ → A
cell v st p j = v (node_at st p) j

-- that of all nodes, w places each
unfoldable pub cells : {A : Type 0} → ℕ → ℕ → (Node → ℕ → A) → List Node → List A
cells w size v st = fill size (λ i. cell v st (i / w) (i % w))

-- word j of its rows, and the multiplier of the active vertex j + 1; 0 where there is none
abbrev pub word_at : Node → ℕ → ℕ
word_at x j = get_or (rows_of x.marks) j 0

abbrev pub multiplier_at : Node → ℕ → ℤ
multiplier_at x j = get_or x.multipliers j (pos 0)

-- a stack's words, and what its nodes carry
abbrev pub stack_words : List Node → List ℕ
stack_words st = cells node_words stack_size word_at st

abbrev pub carried_of : List Node → List ℤ
carried_of st = cells max_vertices carried_size multiplier_at st

-- ---- the incumbent: "1 in, 0 out"

-- a Boolean for each of m edges
unfoldable pub bits : ℕ → List ℕ → List Bool
bits m w = fill m (λ i. eqb (get_or w i 0) 1)

unfoldable pub best_of : ℕ → Bool → List ℕ → Incumbent (List Bool)
best_of m true w = a_tour (bits m w)
best_of m false w = no_tour

unfoldable pub has_incumbent : Incumbent (List Bool) → Bool
has_incumbent no_tour = false
has_incumbent (a_tour r) = true

unfoldable pub best_bytes : Incumbent (List Bool) → List ℕ
unfolding bytes_of_tour
best_bytes no_tour = replicate max_edges 0
best_bytes (a_tour r) = bytes_of_tour r

-- ---- the record

-- a flag is a byte, 1 yes and 0 no: is a search open, and is there an incumbent?
abbrev pub is_open : Search → Bool
is_open s = eqb s.«open» 1

abbrev pub has_tour : Search → Bool
has_tour s = eqb s.has_best 1

-- the bytes of its list of the vertices ashore: the first n. Document 02, C-20: "a list of n bytes, 1 for ashore, 0 for afloat"
abbrev pub ashore_in : Search → List ℕ
ashore_in s = fit s.graph.n 0 s.ashore

-- the opening that a record holds; the multipliers are the first n
unfoldable pub opening_in : Search → Opening
opening_in s = opening_of s.graph (fit s.graph.n (pos 0) s.multipliers) (ashore_in s) s.settings

-- the number of its active vertices: a node carries a multiplier for each
abbrev pub active_in : Search → ℕ
active_in s = rank (active (ashore (ashore_in s))) s.graph.n

-- the search that an open record holds
unfoldable pub progress_of : Search → Progress
progress_of s =
    record {
      opening = opening_in s;
      upper = s.upper;
      stack = nodes (active_in s) s.graph.m s.stack s.carried s.depth;
      incumbent = best_of s.graph.m (has_tour s) s.best;
      count = s.count;
    }

unfoldable pub decode : Search → State
decode s = cond (is_open s) (searching (progress_of s)) no_search

-- the record of a search
unfoldable pub record_of : Progress → Search
record_of s =
    record {
      settings = s.opening.settings;
      upper = s.upper;
      count = s.count;
      stack = stack_words s.stack;
      depth = length s.stack;
      graph = s.opening.graph;
      multipliers = fit max_vertices (pos 0) s.opening.multipliers;
      carried = carried_of s.stack;
      best = best_bytes s.incumbent;
      ashore = fit max_vertices 0 s.opening.ashore;
      «open» = 1;
      has_best = bit (has_incumbent s.incumbent);
    }

unfoldable pub encode : State → Search
encode no_search = fresh
encode (searching s) = record_of s
