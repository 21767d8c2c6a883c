pub mod Limited
pub mod Pack
pub mod Packed
pub mod PackedCheck
pub mod RoundTrip
pub mod Unpack
pub mod WholeBytes
