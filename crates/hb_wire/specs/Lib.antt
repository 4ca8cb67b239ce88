pub mod Fixed
pub mod Vlong
