pub mod Pointers
mod LiveFiles
mod PlannedSides
mod BuiltPoints
mod ListedPoints
mod SidesKept
pub mod Journals
