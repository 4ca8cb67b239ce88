pub mod Reading
pub mod Recovers
