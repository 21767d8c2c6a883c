pub mod Lowest
pub mod Sums
