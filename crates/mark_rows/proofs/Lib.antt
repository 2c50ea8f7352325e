-- marks and rows, there and back; one free edge marked otherwise; the six words of a node; its words made edge by edge
pub mod Building
pub mod Remarking
pub mod SixWords
pub mod TwoRows
