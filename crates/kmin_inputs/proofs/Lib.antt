pub mod Common
pub mod FailureCounts
pub mod AnswerReads
pub mod AnswerFileLists
pub mod LentAnswers
pub mod ListReads
