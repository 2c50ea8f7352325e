-- what a reader must believe: definitions and the statement; beside them of tours Tours and OneNetwork (and of Orders elem, distinct, fronts
-- and words), of lifting Lifted, of afloat Over, Reduced (`reduced`) and Lists (`reduced_list`), of thinning Ranks (`rank`, `nth`), of tree_theory
-- OneTree, Inputs and Enumeration, of graph Limits, Network and Valid, and what these take from the laws: lists' Bools, Members, All, Select,
-- Distinct, Numbers, Rows and Sets, integers' Range and Sums, spanning's Walks
pub mod Outcomes
pub mod Machine
pub mod Calls
pub mod Demand3
-- branch and bound, and that document 01's opening of a node obeys its laws
pub mod Laws
pub mod Requireds
-- what every state keeps
pub mod Depth
pub mod Trimmed
pub mod Runs
pub mod Kept
pub mod Active
pub mod Gained
pub mod Preserved
pub mod Refusals
-- document 02, C-16: what a node's halves inherit, and what waits below
pub mod Inherited
-- the statement about the machine itself, and what follows it (proved in proofs/)
pub mod Claims
