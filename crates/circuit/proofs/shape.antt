pub mod AxlesApart
pub mod Coefficients
pub mod RowApart
pub mod Shape
