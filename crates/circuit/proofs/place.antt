pub mod FormLayout
pub mod PlaceRange
pub mod WordByWord
