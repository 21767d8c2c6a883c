pub mod EntriesAsked
pub mod PackAnswer
