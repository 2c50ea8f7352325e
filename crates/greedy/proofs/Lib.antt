-- `contains` at a range with both ends
pub mod Contains
-- the keys, lent as a slice and sorted
pub mod Sorted
pub mod Swaps
pub mod Lent
pub mod Stretches
-- the keys of the edges at vertex 1 and those of the others, as two slices of one array
pub mod Slices
pub mod Completed
-- faults, one after the other
pub mod Faults
-- laws that no proof cites today
pub mod Further
