pub mod AnswerSteps
pub mod ReadFiles
