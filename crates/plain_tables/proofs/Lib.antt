pub mod Walks
mod Repeats
pub mod ByName
pub mod Entries
