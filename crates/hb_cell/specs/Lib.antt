pub mod Kinds
pub mod Limits
pub mod Order
pub mod Hiding
pub mod Stored
pub mod Reading
pub mod OrderLaws
pub mod Refused
