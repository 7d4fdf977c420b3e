pub mod Names
pub mod Explanations
pub mod Deep
pub mod NearestNames
pub mod between
pub mod checker
