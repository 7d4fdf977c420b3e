pub mod Lines
pub mod LackingLines
pub mod Lists
pub mod WordLines
pub mod WordFiles
pub mod between
pub mod checker
