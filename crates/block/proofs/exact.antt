pub mod Block
pub mod BlockExpansion
pub mod BlockRounds
pub mod FirstRows
pub mod States
pub mod WireBits
