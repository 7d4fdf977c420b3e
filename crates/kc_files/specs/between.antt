pub mod KnownFiles
pub mod FileRuns
