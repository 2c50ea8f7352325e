-- The arrays of a record: cells of equal size (Cells), the incumbent's bytes (Incumbents), and the stack with one node more or less (Pushing).
pub mod Cells
pub mod Incumbents
pub mod Pushing
