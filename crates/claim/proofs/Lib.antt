pub mod AnswersAll
pub mod LineFront
pub mod LineRight
