pub mod CellBlock
pub mod Header
