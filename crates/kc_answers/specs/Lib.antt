pub mod checker
pub mod RunStates
pub mod ReadAnswers
