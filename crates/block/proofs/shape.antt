pub mod BlockApart
pub mod Standing
