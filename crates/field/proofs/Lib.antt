pub mod Congruence
pub mod Prime
pub mod Residue
mod Lucas
mod PowerOrder
mod Pigeonhole
mod Power
mod Whole
