pub mod Spot
pub mod Lawful
