pub mod Accepted
pub mod Front
