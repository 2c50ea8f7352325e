mod Pieces
mod Ceiling
mod Whole
mod Zeros
-- laws that no proof cites today
pub mod Further
