pub mod Parts
pub mod State
