pub mod Asked
pub mod Explained
pub mod Located
pub mod between
pub mod checker
