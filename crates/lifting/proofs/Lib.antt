-- the verdict of lifting, and the rulings in plain words
pub mod Rulings
pub mod Verdict
pub mod Further
