-- what rests on the digits of a row: rows and their digits, one digit changed, two rows
pub mod Rows
pub mod Marking
pub mod Pairs
