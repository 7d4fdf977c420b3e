pub mod Kinds
pub mod Marks
pub mod MissingPaths
pub mod SummarySteps
