pub mod Blocks
pub mod DataCells
pub mod Front
pub mod Index
pub mod File
