pub mod CommandLemmas
pub mod NumberLemmas
pub mod LineLemmas
pub mod StepLemmas
