pub mod CanBeDone
pub mod FiledKept
pub mod Numbers
pub mod Shown
