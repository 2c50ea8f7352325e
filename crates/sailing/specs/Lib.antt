-- What a reader must believe: the draws, sailing orders, the times of a sailing, and what a simulation answers
pub mod Draws
pub mod Orders
pub mod Times
pub mod Simulation
-- Theorems for a reader: no two students are ever in one state; what is accepted is a tour in order, and every tour can be sailed so, either
-- way; what the call answers of it
pub mod Apart
pub mod OrderTest
pub mod SailedTours
pub mod EitherWay
pub mod Theorems
-- What follows is proved, or says what code knows.
pub mod Walking
pub mod Refusals
pub mod Totals
