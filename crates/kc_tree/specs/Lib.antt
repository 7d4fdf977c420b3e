pub mod TreeModel
pub mod between
pub mod checker
