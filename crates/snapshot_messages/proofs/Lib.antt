pub mod Nevers
pub mod Told
