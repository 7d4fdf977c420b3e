pub mod TreeFolders
pub mod TextsOfExpansions
pub mod ListedQuestions
pub mod KnownExpansions
