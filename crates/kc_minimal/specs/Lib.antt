pub mod Minimisation
pub mod between
pub mod checker
