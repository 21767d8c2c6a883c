pub mod Acceptance
pub mod Exact
pub mod Unaltered
