pub mod Band
pub mod Check
pub mod Exact
pub mod Former
pub mod Layout
pub mod Limited
pub mod Produce
pub mod RowAnswer
