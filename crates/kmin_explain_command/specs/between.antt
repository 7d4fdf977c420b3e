pub mod LinedFiles
pub mod UnknownNames
pub mod Texts
pub mod Ends
