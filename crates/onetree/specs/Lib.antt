-- The tree call, the rule call and the pass. What a reader must believe: what they answer, and every byte that they leave
pub mod Answers
-- What follows is proved, or says what code knows.
-- the rulings by swaps with the least 1-tree: of an edge, of those outside the tree, of those in it, of all
pub mod Verdicts
pub mod Candidates
pub mod Outside
pub mod Forcing
pub mod Ruled
-- the least 1-tree, hung
pub mod HungTree
pub mod ReadyToJudge
-- lifting: the best to change places, and what becomes of kept edges
pub mod Picks
pub mod Masks
pub mod Lifts
pub mod Retried
-- the calls, case by case
pub mod TreeCall
pub mod Ceiling
pub mod RuleCall
