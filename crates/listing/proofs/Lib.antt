pub mod AllPrinted
pub mod AxleLineRight
pub mod Chunks
pub mod PartLines
pub mod LineRight
pub mod Lines
pub mod Requests
pub mod WholeBytes
