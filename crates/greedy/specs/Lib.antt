-- The least 1-tree by the greedy choice. What a reader must believe of `least`: every byte that it leaves; of these the calls of `onetree` promise
-- only what `Hint` says
pub mod Hint
pub mod Charged
pub mod Least
pub mod LeastParts
-- What follows is proved, or says what code knows.
-- how large the numbers get: laws over the limits
pub mod Fits
pub mod AllWithin
-- the array of charges, and the bound that a sum of them stands for
pub mod Charging
-- the order of the edges: keys, made from a hint or without, and sorted
pub mod Falling
pub mod Keys
pub mod Making
pub mod Passing
pub mod Hinting
pub mod Fronts
pub mod Parting
-- the greedy choice, edge by edge
pub mod Relabelling
pub mod Growth
pub mod ChoiceSoFar
-- what it comes to: the least 1-tree, or none
pub mod Queue
pub mod Required
pub mod Kruskal
-- and that the loop may end as soon as the vertices are connected; at how many edges it then looked
pub mod Stopping
-- what code is given, and what it answers
pub mod Chosen
