-- the ends of a turn of a node's passes
pub mod Turns
-- what is refused before a pass, and what a pass leaves that is refused
pub mod Asked
-- what the loops over a word's bits keep
pub mod Loops
-- laws that no proof cites today
pub mod Further
