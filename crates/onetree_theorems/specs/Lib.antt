-- what a reader must believe: the statements, and what they are stated by: of afloat Over, of tree_theory `bound` in OneTree and `multiplier` in Inputs,
-- of onetree Reply in Answers, of graph Limits, Network, Valid and Same, of integers `up` and `dn` in Parts, InRange and `sum_z`, of lists `bit`, `◌∈◌`,
-- `select`, `up_to` and `row`, of spanning Walk. That the contracts cite tree_reply_over, tree_leaves_over, rule_reply_over and rule_leaves_over is
-- to be seen in reduction/src; how these go through all sets need not be read.
pub mod Calls
pub mod TwoCeilings
pub mod Previews
pub mod Former
-- their proofs
pub mod Refusing
pub mod Bytes
pub mod Theorems
pub mod SameCharts
pub mod LowerCeiling
pub mod PreviewLaws
pub mod FormerSearch
pub mod AtOne
pub mod AnyDenominator
