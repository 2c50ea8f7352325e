-- 1-trees and rulings over a network. What a reader must believe:
-- document 01's words, and the least 1-tree and the rulings as values, by going through all sets of edges
pub mod Inputs
pub mod OneTree
pub mod Enumeration
-- of document 02's C-17 the network whose costs are multiplied
pub mod Scaled
-- and of document 02's C-12 at how many edges the loop looks that joins the vertices
pub mod Looked
-- What follows is proved, or says what code knows.
-- the values are what the words say, and the only such
pub mod Agree
pub mod Subsets
pub mod Decide
pub mod LeastTree
pub mod Rulings
-- a valid network; which 1-tree is least, and which edges change places
pub mod Valid
pub mod Optimal
-- the network with q times the costs: what stays, and how large its charges and bounds get
pub mod Scaling
pub mod Ranges
-- at how many edges the loop looks is one number, told by rank
pub mod Looking
-- a graph value's arrays and the lists beside it, as code has them
pub mod Arrays
pub mod Multipliers
pub mod Accepted
pub mod Spans
pub mod Merges
