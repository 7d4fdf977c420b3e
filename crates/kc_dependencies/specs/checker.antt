pub mod ModulesSymbol
pub mod StoredRules
pub mod Links
