pub mod exact
pub mod shape
