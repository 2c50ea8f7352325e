-- What a reader must believe: each answer in numbers, what the calls on lent records give, demand 3 of the exported calls, and what of it can be said
-- without document 01's machine
pub mod Answers
pub mod Searches
pub mod Shelves
pub mod Dispatches
pub mod Demand3
pub mod Verdicts
-- It holds.
pub mod Theorem
pub mod CompareAtOne
-- What code knows.
pub mod Outcomes
