-- every list has a path, an accepted back restores, both records are the machine's
pub mod Paths
pub mod Restores
pub mod ShelfFollows
