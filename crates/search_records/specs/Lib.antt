-- What a reader must believe: document 01's machine as a machine of crate lent_records, and the five calls on its record
pub mod Searching
pub mod Calls
-- What follows is proved.
pub mod Same
pub mod Seen
