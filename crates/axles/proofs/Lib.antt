pub mod Accepted
pub mod Bands
pub mod Congruent
pub mod Counts
pub mod exact
pub mod Exactness
pub mod Limited
pub mod Unaltered
