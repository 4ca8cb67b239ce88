pub mod First
pub mod Kept
pub mod Region
mod Shown
