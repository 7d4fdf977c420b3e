pub mod CutSteps
pub mod ContinuedLines
pub mod HelpTextLines
