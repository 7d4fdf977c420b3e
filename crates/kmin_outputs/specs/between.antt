pub mod Lines
pub mod LoadStops
pub mod LoadResults
pub mod Comparisons
