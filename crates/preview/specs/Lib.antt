-- what a reader must believe
pub mod Preview
-- what its code needs
pub mod Faults
