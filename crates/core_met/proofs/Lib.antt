pub mod Begin
pub mod Choices
pub mod Flush
pub mod Journal
pub mod Lawful
pub mod Shot
pub mod Starts
