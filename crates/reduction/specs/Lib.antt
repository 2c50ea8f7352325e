-- The calls tree and rule with a list that says which vertices are ashore (document 02's C-20). What a reader must believe:
-- what they answer, and every byte that they leave
pub mod Answers
-- Whether the list says that one is ashore, and that none is
pub mod Listed
-- What follows is proved, or says what code knows.
-- the graph of the vertices that are afloat: new numbers, moved edges, multipliers
pub mod Numbers
pub mod Moved
pub mod Moving
pub mod Gathered
pub mod Active
-- the graph of the edges that are left, and bytes for all edges
pub mod Left
-- what both come to: a valid graph, whose network is afloat's compact one
pub mod Small
-- the calls, case by case: what is refused, what is accepted; where none is ashore; what the calls of onetree say on the small graph
pub mod Accepting
pub mod NoneListed
pub mod Made
pub mod Answered
-- a list of bytes, eight at a time
pub mod Chunks
-- what a search rests on
pub mod Searched
