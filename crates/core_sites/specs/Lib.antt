pub mod Calls
pub mod Shows
