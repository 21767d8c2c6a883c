pub mod Decided
pub mod Tests
