pub mod Line
pub mod ListError
pub mod Numbered
pub mod Rows
