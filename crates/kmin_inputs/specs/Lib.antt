pub mod FileContents
pub mod JobAnswers
pub mod AnswerStops
pub mod ListFiles
pub mod WordFiles
pub mod between
