-- What a reader must believe: the bytes of a node, what it is opened with, and what its opening comes to for every input
pub mod Marks
pub mod Given
pub mod Opened
-- What follows is proved, or says what code knows.
-- what is refused
pub mod Faults
pub mod Refusing
-- one pass: degrees, gains, marks, and what the tree part tells
pub mod Counting
pub mod Gains
pub mod Marking
pub mod Passing
pub mod OnePass
-- the passes, turn by turn
pub mod Passes
-- on the edges that are left, listed from the words, and back to all
pub mod Compacting
pub mod Walking
pub mod Words
pub mod Expanding
pub mod CompactGraph
-- the node: what is promised, and that it is the machine's
pub mod Opens
-- a list in an array's places
pub mod Padding
