pub mod Parts
pub mod Differences
pub mod Words
pub mod Range
pub mod Order
pub mod Sums
pub mod Multiples
