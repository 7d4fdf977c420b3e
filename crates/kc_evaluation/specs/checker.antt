pub mod SymbolValueViews
pub mod RuleParts
pub mod Texts
pub mod ValuationView
pub mod Choices
