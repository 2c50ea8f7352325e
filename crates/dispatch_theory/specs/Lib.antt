-- What a reader must believe: the dispatcher as a machine, by its places' machines; stretches of calls with turns
pub mod Dispatcher
pub mod Stretches
-- What follows is proved: the cyclic order; each place is its machine run alone; nobody waits past eight turns; both of lent records
pub mod Cyclic
pub mod Alone
pub mod Fairness
pub mod Records
-- Whole lists of calls, by computation
pub mod Example
