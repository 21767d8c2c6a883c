pub mod Accepted
pub mod Demand3
pub mod DigestBits
pub mod exact
pub mod Limited
pub mod Unaltered
pub mod WholeBytes
