pub mod Cleaning
pub mod Compacting
pub mod Journal
pub mod Lawful
