pub mod between
pub mod checker
