pub mod Jobs
pub mod between
