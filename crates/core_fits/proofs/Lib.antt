mod Entries
pub mod Valid
