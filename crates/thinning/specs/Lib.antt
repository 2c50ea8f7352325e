-- kept edges and their new numbers
pub mod Ranks
-- the network of the kept edges: its 1-trees, bounds and rulings, without lifting and with it
pub mod Thinned
pub mod Reading
pub mod Rulings
pub mod Lifted
