pub mod Tools
pub mod BlockLaws
pub mod CellLaws
pub mod FrontLaws
pub mod FileLaws
