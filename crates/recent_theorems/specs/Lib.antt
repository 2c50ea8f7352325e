-- what a reader must believe: the statements, and what they are stated by: of recent Costs, Answers and `Greatest`, and what demand 3 is stated by
pub mod Recent
-- their proofs
pub mod Theorems
