pub mod Statuses
pub mod Strictness
pub mod Outputs
pub mod Stops
pub mod between
