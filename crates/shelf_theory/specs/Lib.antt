-- What a reader must believe: the machine with saved states; the calls on two lent records
pub mod Shelves
pub mod ShelfRecords
-- Theorems for a reader: every list has a path, an accepted back restores, both records are the machine's
pub mod Paths
pub mod Restores
pub mod ShelfFollows
pub mod Example
