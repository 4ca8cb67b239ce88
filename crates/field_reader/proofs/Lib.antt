pub mod Pushes
pub mod Walks
pub mod Records
pub mod Places
pub mod Apart
