pub mod CellLists
pub mod Headers
pub mod HeaderLaws
