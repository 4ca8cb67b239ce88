mod PlacedKept
pub mod Complete
