pub mod Check
pub mod Demand3
pub mod Former
pub mod Layout
pub mod Limited
pub mod Produce
pub mod RowAnswer
pub mod WholeBytes
