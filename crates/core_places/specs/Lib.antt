pub mod Below
pub mod Laws
pub mod Places
pub mod Served
