pub mod Record
pub mod Whole
pub mod WireBits
