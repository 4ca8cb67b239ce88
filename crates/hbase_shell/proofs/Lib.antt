pub mod AnswerLemmas
pub mod ListingLemmas
pub mod OutputLemmas
pub mod PlaceLemmas
pub mod ScriptLemmas
pub mod SetLemmas
pub mod RunLemmas
