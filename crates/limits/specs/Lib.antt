pub mod Blocks
pub mod Handed
pub mod Limit
pub mod Limited
