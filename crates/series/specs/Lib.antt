pub mod Series
