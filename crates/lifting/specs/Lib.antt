-- Lifted multipliers (document 02, C-13). What a reader must believe: the change of source document 000 and the rulings of a pass made with it,
pub mod Lifted
-- and worked examples.
pub mod Examples
-- What follows is proved. The values of Lifted once more in plain words, and that they are these
pub mod Plain
pub mod Chosen
-- a 1-tree that no swap lowers is minimal; what a change of two multipliers does to a bound; the best swap decides
pub mod Local
pub mod Changed
pub mod Supports
-- how far two multipliers may move with the 1-tree minimal and the best swap the same, and the sum that then decides
pub mod Moves
pub mod Allowed
pub mod InNumbers
-- the two fast formulas, of the definition; trees that agree; the rulings in plain words, and what survives them
pub mod Exactly
pub mod Agreeing
-- and how a program works them out, by natural numbers
pub mod Worked
pub mod Folds
pub mod Found
pub mod Meeting
pub mod Verdict
pub mod Counting
pub mod Loops
pub mod Rulings
