-- Which edges may change places with one of the least 1-tree: the tree hangs from vertex 2, and an edge outside it closes a circle. Nothing
-- here need be believed.
-- the tree in a table, an edge list a vertex
pub mod Grid
pub mod TreeTable
-- hung from vertex 2, vertex by vertex
pub mod Hanging
pub mod Visiting
pub mod Rooted
pub mod RootedTree
-- the circle that an edge closes: its two ends climb to where they meet
pub mod Climbing
pub mod Extremes
-- what a swap does to the bound, against a ceiling
pub mod Swaps
pub mod Slack
