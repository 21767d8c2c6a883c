pub mod GivenRows
