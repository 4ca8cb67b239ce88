pub mod Output
pub mod Run
pub mod RunError
pub mod Script
pub mod Snapshots
