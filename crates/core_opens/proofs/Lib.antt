pub mod Entered
mod Beside
pub mod Read
pub mod Opens
mod Lives
pub mod Bare
mod Faultless
