pub mod StoredBytes
pub mod Pieces
pub mod Frames
pub mod ProgramSteps
pub mod PartialValues
pub mod BuiltIns
pub mod Events
