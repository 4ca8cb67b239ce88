pub mod Sums
pub mod Opens
pub mod Counts
pub mod Planned
pub mod Sets
pub mod Kept
pub mod Journals
