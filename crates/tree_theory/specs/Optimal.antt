-- Which 1-tree is least. A 1-tree is two edges at vertex 1 and a spanning tree of the others (Link); its bound and the order of equals are
-- one weight (Bound, Weight); Kruskal's choice is the least (Minimum); one exchange with it decides a ruling (Exchange, Criteria).
pub mod Link
pub mod Bound
pub mod Weight
pub mod Minimum
pub mod Exchange
pub mod Criteria
