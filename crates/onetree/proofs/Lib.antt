pub mod Cases
-- laws of before
pub mod Further
