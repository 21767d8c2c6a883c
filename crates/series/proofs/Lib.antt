pub mod AllBlocks
pub mod Messages
pub mod Series
