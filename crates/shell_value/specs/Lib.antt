pub mod Cut
pub mod Quotes
pub mod Column
