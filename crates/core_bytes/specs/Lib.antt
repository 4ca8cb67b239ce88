pub mod FileOf
pub mod Recorded
pub mod Stored
pub mod Written
pub mod Laws
