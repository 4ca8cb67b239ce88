pub mod Lines
pub mod Block
pub mod Session
pub mod Script
