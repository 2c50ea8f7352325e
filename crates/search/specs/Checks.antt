-- The record's check, as its code goes: small loops (Loops), its parts (Parts), a node's rows (Rows), and edges that touch a vertex ashore (Struck).
pub mod Loops
pub mod Parts
pub mod Rows
pub mod Struck
