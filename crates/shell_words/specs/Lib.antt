pub mod Command
pub mod Line
pub mod Matches
pub mod Options
pub mod Reading
