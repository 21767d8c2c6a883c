pub mod Bits
pub mod Bytes
pub mod Lowest
pub mod Packed
pub mod Sequence
pub mod Written
