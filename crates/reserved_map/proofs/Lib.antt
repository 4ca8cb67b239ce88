pub mod First
pub mod Least
pub mod Valued
pub mod Values
pub mod Writes
