pub mod Trailer
pub mod Written
pub mod Info
