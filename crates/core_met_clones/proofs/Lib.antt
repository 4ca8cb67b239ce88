pub mod Cloning
pub mod Dropping
pub mod Journal
pub mod Lawful
