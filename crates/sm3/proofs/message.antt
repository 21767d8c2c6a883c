pub mod Copied
pub mod MessageBits
pub mod PaddedBlock
pub mod Padding
