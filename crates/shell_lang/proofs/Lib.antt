pub mod TextLemmas
pub mod CreateLemmas
