pub mod IndexKey
pub mod Entries
pub mod Short
pub mod Written
pub mod Views
