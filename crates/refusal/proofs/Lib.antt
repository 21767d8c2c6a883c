pub mod Injective
pub mod Small
pub mod Tests
