pub mod Filed
pub mod Trees
pub mod Laws
