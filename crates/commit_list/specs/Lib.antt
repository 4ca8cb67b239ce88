pub mod ListEntry
pub mod RegionList
pub mod CommitNumber
