pub mod Explains
pub mod Stops
pub mod between
