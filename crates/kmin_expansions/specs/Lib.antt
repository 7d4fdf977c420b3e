pub mod TreeFolders
pub mod JobTexts
pub mod KnownExpansions
pub mod WantedQuestions
pub mod between
