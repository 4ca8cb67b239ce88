pub mod Changes
pub mod Held
pub mod Opened
pub mod Parts
pub mod Represents
pub mod Rooms
pub mod Works
