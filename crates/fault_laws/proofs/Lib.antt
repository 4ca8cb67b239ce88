pub mod Fronts
pub mod Ones
pub mod Messages
