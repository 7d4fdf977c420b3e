pub mod ReportLines
pub mod RunErrors
