pub mod Injective
pub mod Small
