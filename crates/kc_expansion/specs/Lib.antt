pub mod between
pub mod checker
pub mod Expansions
pub mod TreeLaws
