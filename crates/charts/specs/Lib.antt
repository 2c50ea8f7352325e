-- What a reader must believe: the chart as bytes, and what each answer says
pub mod Chart
pub mod Answers
-- What follows is proved, or says what code knows.
-- numbers in bytes; what no fault means
pub mod TwosComplement
pub mod NoFault
pub mod Records
-- reading, a record at a time
pub mod Appending
pub mod ChainSteps
pub mod ReadLoop
-- writing
pub mod WriterLoop
