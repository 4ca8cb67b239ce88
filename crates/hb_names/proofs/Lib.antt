pub mod ComponentLemmas
pub mod PlaceLemmas
pub mod FreeLemmas
