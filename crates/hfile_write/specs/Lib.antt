pub mod Blocks
pub mod Ended
pub mod Summary
pub mod Written
pub mod Answers
