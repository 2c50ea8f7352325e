-- what a reader must believe
pub mod Orders
pub mod Tours
pub mod OneNetwork
-- the test for a tour passes exactly the tours
pub mod TourTest
-- a tour is a 1-tree, and its bound is its cost
pub mod Trips
pub mod TourTree
-- a 1-tree is a tour exactly where every degree is 2
pub mod Degrees
pub mod TwoEach
pub mod DegreeTest
-- the degrees of all vertices, counted in one loop over the edges
pub mod Counted
-- renumbered edges make the same tours
pub mod Renumbering
