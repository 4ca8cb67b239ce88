pub mod FreeLemmas
pub mod LiveLemmas
pub mod EntryLemmas
pub mod EntriesLemmas
pub mod ListLemmas
pub mod NumberedLemmas
