pub mod Changes
pub mod Filled
pub mod Keys
pub mod Lends
pub mod LendsMap
pub mod Order
pub mod Values
