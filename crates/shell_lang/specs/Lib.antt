pub mod Create
pub mod Jobs
pub mod Line
