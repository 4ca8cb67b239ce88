pub mod Member
pub mod Same
pub mod Visible
pub mod VisibleLaws
