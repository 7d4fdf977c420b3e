pub mod Fragments
pub mod ReadResults
pub mod between
pub mod checker
