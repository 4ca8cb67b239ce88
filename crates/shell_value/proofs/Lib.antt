pub mod CutLemmas
pub mod NumberLemmas
pub mod UnescapeLemmas
pub mod NameLemmas
pub mod PieceLemmas
pub mod ColumnLemmas
pub mod FitsLemmas
