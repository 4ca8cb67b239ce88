pub mod Truths
pub mod Counts
pub mod Sorting
pub mod InOrder
pub mod Filters
pub mod SeenParts
pub mod Distinct
pub mod Members
pub mod Versions
pub mod Least
pub mod ShownExactly
pub mod SeenAgain
pub mod SeenAmong
mod VisibleExamples
