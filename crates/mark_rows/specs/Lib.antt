-- What a reader must believe: a node's marks as six words, and the marks that six words hold
pub mod MarkRows
-- What follows is proved: rows of any number of words, edge by edge, to marks and back, counted
pub mod TwoRows
-- one free edge marked otherwise
pub mod Remarking
-- the six words of a node
pub mod SixWords
-- a node's words made edge by edge
pub mod Building
