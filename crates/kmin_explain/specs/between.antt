pub mod Sources
pub mod ExplainedSymbols
