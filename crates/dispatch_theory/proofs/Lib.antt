-- nobody waits past eight turns
pub mod Fairness
