pub mod LineLemmas
pub mod BlockLemmas
pub mod AddLemmas
pub mod ScriptLemmas
