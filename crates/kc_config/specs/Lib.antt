pub mod ConfigStates
pub mod checker
