pub mod AtMostOne
pub mod MessageRows
pub mod Reached
pub mod RowsHold
