pub mod Input
pub mod Taken
pub mod Heads
pub mod HeadsLaws
pub mod Kept
pub mod Machine
