pub mod Fits
pub mod Valid
pub mod Faults
pub mod Begins
pub mod Laws
