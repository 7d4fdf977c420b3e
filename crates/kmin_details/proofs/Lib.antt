pub mod CycleTexts
pub mod ChangeBounds
pub mod NearSteps
pub mod OneLines
pub mod SymbolNames
