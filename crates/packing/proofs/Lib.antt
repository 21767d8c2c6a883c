pub mod Answers
pub mod Limited
pub mod PackedExact
pub mod RoundTrip
pub mod WordBytes
pub mod WholeBytes
