pub mod Readings
pub mod ReportLines
pub mod Statuses
pub mod FileResults
pub mod FileReports
pub mod Endings
