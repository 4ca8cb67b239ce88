pub mod KindLemmas
pub mod NameLemmas
pub mod PathLemmas
pub mod JoinLemmas
pub mod LawfulLemmas
