pub mod AxleLine
pub mod Line
pub mod Listing
pub mod Progress
pub mod Request
pub mod Rows
pub mod Steps
pub mod WholeBytes
