-- what a reader must believe
pub mod Answers
-- what its code needs
pub mod Steps
pub mod Listed
