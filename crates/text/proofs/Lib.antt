pub mod AfterField
pub mod Digits
pub mod FieldRight
pub mod Fields
pub mod HexDigits
pub mod HexRight
pub mod Put
