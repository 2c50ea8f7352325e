-- What a reader must believe: what save and back give, and demand 3 of all seven calls
pub mod Replies
pub mod Demand3
-- what of it can be said without document 01's machine, and the calls as their contracts name them
pub mod Verdicts
pub mod Promised
-- What follows is proved, or says what code knows.
pub mod Cases
