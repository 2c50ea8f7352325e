-- what rests on the definitions of the machine: the general theorem, the laws of a pass and an opening, what every state keeps, the proof of the
-- statement, an opening with lifting and without by computation
pub mod Applied
pub mod BranchAndBound
pub mod Claim
pub mod Depth
pub mod Following
pub mod Inherited
pub mod Invariant
pub mod Lifting
pub mod NodeTours
pub mod OpeningLaws
pub mod Preserved
pub mod ScaledLaws
pub mod Struck
