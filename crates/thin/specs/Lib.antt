-- what the walks share
pub mod Parts
-- one walk for each list of further parameters
pub mod None
pub mod Number
pub mod Bytes
pub mod List
pub mod NumberList
pub mod Opening
pub mod Log
pub mod Beside
