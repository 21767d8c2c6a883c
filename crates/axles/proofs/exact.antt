pub mod Appended
pub mod Whole
