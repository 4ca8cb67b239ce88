pub mod Nevers
pub mod Rises
pub mod Rising
pub mod Told
