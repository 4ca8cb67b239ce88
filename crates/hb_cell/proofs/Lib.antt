pub mod Taking
pub mod Keys
pub mod Parts
pub mod Cells
pub mod SameKeys
pub mod Refusals
