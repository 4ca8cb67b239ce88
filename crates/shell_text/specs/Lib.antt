pub mod Blanks
pub mod Argument
pub mod Text
pub mod TextLaws
pub mod Repeated
pub mod RepeatedLaws
pub mod TextEnd
