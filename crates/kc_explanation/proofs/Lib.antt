pub mod Common
pub mod SpellingLemmas
pub mod ExplanationLemmas
pub mod PartLines
pub mod Spellings
pub mod CaseTexts
