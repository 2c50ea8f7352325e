-- What a reader must believe: the limits, the network that a graph value stands for, when it is valid, when two are the same, and the numbers of
-- the refusals
pub mod Limits
pub mod Network
pub mod Valid
pub mod Edgeless
pub mod Same
pub mod Refusals
-- What follows is proved, or says what code knows.
-- how large numbers get: laws over the limits
pub mod Fits
-- an edge's number, and its place
pub mod Numbered
-- the test is the statement; the network by its places, and a graph by its parts
pub mod Meaning
pub mod Places
pub mod Parts
-- a graph made of lent parts
pub mod Made
-- the check's loops, and its table of pairs
pub mod PairTable
pub mod Pigeonhole
pub mod CheckLoop
pub mod Rising
