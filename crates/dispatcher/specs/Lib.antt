-- What a reader must believe: crate search's machine and record at each place, what each call replies, and C-24's claims
pub mod Searches
pub mod Replies
pub mod Claims
-- Theorems for a reader: the claims hold; the code's answers are the dispatcher's
pub mod Theorem
pub mod Meant
-- What follows is proved, or says what code knows.
pub mod Steady
pub mod Seen
pub mod Cases
