pub mod Accepted
pub mod Nested
pub mod Regular
pub mod Shown
pub mod Tests
pub mod Texts
