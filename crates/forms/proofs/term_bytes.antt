pub mod TermBytes
