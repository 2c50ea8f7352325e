-- What a reader must believe: a record as a state and back, its check, what each call replies, and demand 3 of the calls
pub mod Record
pub mod Canonical
pub mod Check
pub mod Replies
pub mod Seen
pub mod Demand3
-- Theorems for a reader: demand 3 holds; what the check accepts; what a call leaves of any record
pub mod Theorem
pub mod Stored
pub mod Refusals
-- What follows is proved, or says what code knows.
-- words and bytes, and what they stand for, both ways
pub mod Words
pub mod Inverse
-- the check, as its code goes
pub mod Accepted
pub mod Checks
-- an opening
pub mod Trimming
pub mod Begun
-- the vertices ashore, as code reads them
pub mod Vertices
-- a run
pub mod Runs
-- the calls, case by case
pub mod Unless
pub mod ReplyCases
