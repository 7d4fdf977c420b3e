pub mod JsonLists
pub mod Lines
pub mod RecordSteps
