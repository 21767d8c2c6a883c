pub mod Check
pub mod Former
