pub mod Entries
pub mod EntriesBelow
pub mod HashSums
pub mod OneMore
pub mod Places
pub mod Writes
