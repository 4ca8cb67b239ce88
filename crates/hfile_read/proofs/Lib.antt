pub mod Steps
pub mod Cells
pub mod Nodes
pub mod Trees
pub mod Trailers
pub mod Files
