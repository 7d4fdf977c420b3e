pub mod AnswerFaults
pub mod TableView
pub mod LineView
pub mod LinesView
