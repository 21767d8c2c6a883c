pub mod TermByTerm
