-- What a reader must believe: the costs that a log makes, and what the call answers
pub mod Costs
pub mod Answers
-- What follows is proved, or says what code keeps.
-- remainders by w, membership by places, and that the greatest is the greatest
pub mod Remainders
pub mod Places
pub mod Greatest
-- the loop's window, what it keeps of a log (proofs/Exact: after every entry its costs are those worked out afresh)
pub mod Windows
pub mod Exact
-- the loop itself (proofs/Turn: one turn of it), and the call's answer test by test
pub mod Replay
pub mod Faults
