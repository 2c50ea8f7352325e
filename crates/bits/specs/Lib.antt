-- the digits of one number
pub mod Digits
-- one digit set, one cleared
pub mod Changes
-- the kit's operations on words
pub mod Words
-- how many numbers pass a test, and how many digits of a number are set
pub mod Counting
-- rows of words
pub mod Rows
-- one digit of a row set, one cleared
pub mod Marking
-- two rows with no digit in common, clear past m
pub mod Pairs
