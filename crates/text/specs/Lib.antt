pub mod Decimal
pub mod Field
pub mod Hex
pub mod Put
pub mod Refused
pub mod Text
