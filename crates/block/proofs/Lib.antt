pub mod exact
pub mod shape
pub mod StateBytes
