-- a reply in the parts in which a call gives it
mod Parts
-- laws that no proof cites today
pub mod Further
