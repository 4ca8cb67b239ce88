pub mod Saturating
