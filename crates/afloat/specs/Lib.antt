-- 1-trees, rulings and tours over the active vertices (document 02's C-20). What a reader must believe:
-- document 02's words; the tree, the rulings and the test for a tour as values, by going through all sets
pub mod Over
pub mod Values
-- C-13's rulings with lifted multipliers, in the same way
pub mod LiftedOver
-- What follows is proved.
-- the network of the active vertices, numbered anew: what is so of it is so over them, and the other way
pub mod Reduced
pub mod Trees
pub mod Tours
pub mod Decided
-- what the values say, in document 02's words alone
pub mod Meaning
-- with C-17's denominator; with two numberings of the edges; with no vertex inactive
pub mod Scaling
pub mod Agreeing
pub mod NoneAshore
-- the list that a call takes, and lists of multipliers
pub mod Inputs
pub mod Lists
pub mod ListsFit
-- without the touched edges and others that are excluded: the small graph that code makes, and what it computes there
pub mod Compact
pub mod Graphs
pub mod Computed
-- document 01's sea with a buoy ashore
pub mod Example
