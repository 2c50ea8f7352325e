-- The code of a run: what a found tour costs (Costs), which tour is kept (Keeping), the graph on which nodes are opened (ActiveGraph), the record after each
-- outcome of the top node (TopNode), and the loop and the call (Running).
pub mod Costs
pub mod Keeping
pub mod ActiveGraph
pub mod TopNode
pub mod Running
