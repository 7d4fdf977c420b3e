pub mod between
pub mod checker
pub mod Runs
