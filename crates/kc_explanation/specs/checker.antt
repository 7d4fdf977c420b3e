pub mod SpellingWalk
pub mod Contexts
pub mod PartLines
pub mod CaseWords
