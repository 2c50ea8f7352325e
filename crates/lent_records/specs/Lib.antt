-- What a reader must believe: a machine and lists of its calls, its states in lent records, eight places with names
pub mod Machine
pub mod Records
pub mod Places
-- What follows is proved.
pub mod Every
pub mod Following
