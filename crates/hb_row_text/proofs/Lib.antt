pub mod DigitLemmas
pub mod RowTextLemmas
pub mod OrderLemmas
pub mod NextRowLemmas
pub mod LeastLemmas
