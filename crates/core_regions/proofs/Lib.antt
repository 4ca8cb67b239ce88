pub mod Counted
pub mod Held
pub mod Tables
pub mod Snapshots
pub mod Starts
pub mod PlansKept
pub mod Kept
pub mod Journals
