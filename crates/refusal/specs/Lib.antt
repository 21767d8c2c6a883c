pub mod LineRefusals
pub mod Packing
pub mod Refusals
