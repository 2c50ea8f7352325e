-- Branch and bound over any nodes (BranchAndBound: the general theorem is proved in proofs/); document 01's split of a node (Branching), the tours of a
-- node (NodeTours) and which of them is first (Firsts); that an opening obeys the laws (Openings), and so one in parts of a minute (Scaled).
pub mod BranchAndBound
pub mod Branching
pub mod Firsts
pub mod NodeTours
pub mod Openings
pub mod Scaled
