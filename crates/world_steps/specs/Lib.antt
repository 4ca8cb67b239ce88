pub mod World
pub mod Causes
pub mod Writing
pub mod Commits
pub mod Starts
