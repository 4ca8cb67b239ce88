pub mod Journal
pub mod Loading
pub mod Tabled
pub mod Waiting
