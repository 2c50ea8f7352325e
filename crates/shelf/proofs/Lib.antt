-- demand 3 holds
pub mod Theorem
-- what of it can be said without document 01's machine
pub mod Verdicts
-- laws that no proof cites today
pub mod Further
