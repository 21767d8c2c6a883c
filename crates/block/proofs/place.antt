pub mod OneAfterOther
pub mod WordByWord
