pub mod Digest
pub mod Ended
pub mod Limited
pub mod Message
pub mod Reached
pub mod Sm3
pub mod WholeBytes
pub mod Words
