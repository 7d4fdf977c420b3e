pub mod Prefixes
pub mod Formats
pub mod Notices
pub mod LineMeanings
pub mod LineMeaningLaws
pub mod PartialFiles
