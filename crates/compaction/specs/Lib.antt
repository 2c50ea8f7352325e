-- the passes of a node on the network of the kept edges (crate thinning), and what they come to spread out to all edges
pub mod Spread
pub mod Passes
