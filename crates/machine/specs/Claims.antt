-- What demand 3 says of the machine itself (Claim), what holds in each state on the way there (Invariant, Alike), whole lists of calls (WholeLists), and
-- whatever follows the machine (Following).
pub mod Alike
pub mod Invariant
pub mod Claim
pub mod Following
pub mod WholeLists
