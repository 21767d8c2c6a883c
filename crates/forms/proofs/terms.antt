pub mod DifferenceTerms
pub mod Indexed
pub mod Pushed
pub mod SumTerms
pub mod WrittenTerms
