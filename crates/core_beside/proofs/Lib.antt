pub mod Pairs
pub mod Commits
pub mod Loaded
pub mod Regions
pub mod Used
pub mod Kept
pub mod Journals
