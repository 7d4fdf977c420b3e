pub mod Common
pub mod LinedFiles
pub mod ReadFiles
pub mod SourceParts
pub mod OverEnds
pub mod TextEnds
pub mod TextForms
pub mod Endings
