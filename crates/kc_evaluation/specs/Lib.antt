pub mod checker
