-- what is refused before all input
pub mod Closed
-- the list of the vertices ashore that a record lends
pub mod Listed
-- laws that no proof cites today
pub mod Further
