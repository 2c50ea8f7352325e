-- what a reader must believe
pub mod Comparison
-- a theorem for a reader: 0 is 'going on' and nothing else
pub mod GoingOn
-- what its code needs; and that where there is no fault, each pair's opening is accepted
pub mod TwoCalls
pub mod AtMost
pub mod Faults
