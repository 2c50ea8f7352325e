-- What rests on how an entry is entered (specs/Windows): after every entry the costs are those worked out afresh, and the loop's turn
pub mod Exact
pub mod Turn
-- laws that no proof cites today
pub mod Further
