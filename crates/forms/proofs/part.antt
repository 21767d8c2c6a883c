pub mod Kept
pub mod Sorting
