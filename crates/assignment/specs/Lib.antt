pub mod Assignment
pub mod BelowPrime
pub mod Bounded
pub mod Sum
pub mod Values
pub mod Wrote
