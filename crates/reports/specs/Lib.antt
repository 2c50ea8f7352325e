-- What a reader must believe: numbers and lines as printed, what a program reads, and the whole of what each prints of it
pub mod Decimal
pub mod Text
pub mod Input
pub mod Rulings
pub mod Searching
-- Theorems for a reader: the first bytes decide; the calls answer as the machine does; how long numbers and lines are
pub mod Longest
pub mod ThreeCalls
pub mod Room
-- What follows is proved, or says what code knows.
pub mod Reading
pub mod Numbers
pub mod Printing
pub mod Zeros
