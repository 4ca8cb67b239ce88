pub mod FieldLaws
pub mod Low
pub mod Messages
pub mod Varints
