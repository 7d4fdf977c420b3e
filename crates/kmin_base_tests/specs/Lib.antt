pub mod Sums
pub mod checker
