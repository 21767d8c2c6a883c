pub mod FormRows
pub mod Holding
pub mod Judging
pub mod Reaching
