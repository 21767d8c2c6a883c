pub mod Bits
pub mod Bounds
pub mod Limited
pub mod RotatedTable
pub mod Rotation
pub mod ShortWays
pub mod WholeBytes
pub mod WordBits
