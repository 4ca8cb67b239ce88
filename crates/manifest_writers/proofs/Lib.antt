pub mod Repeats
pub mod Families
pub mod Records
pub mod ReadBacks
