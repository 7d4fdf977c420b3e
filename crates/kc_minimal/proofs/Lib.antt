pub mod Common
pub mod RangeLines
pub mod SymbolLines
pub mod DraftSteps
pub mod MinimisedFiles
pub mod Comparisons
pub mod HeldTexts
pub mod ChoiceGroups
