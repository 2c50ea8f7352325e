-- laws that no proof cites today
pub mod Further
