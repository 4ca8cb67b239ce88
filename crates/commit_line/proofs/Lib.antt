pub mod ReadLemmas
pub mod RowLemmas
pub mod NumberLineLemmas
pub mod RefusalLemmas
pub mod NumberToldLemmas
pub mod WordLemmas
pub mod NumberedLemmas
