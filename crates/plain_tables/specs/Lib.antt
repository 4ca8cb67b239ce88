pub mod ByName
pub mod IsOpen
