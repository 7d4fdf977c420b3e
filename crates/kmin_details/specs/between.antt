pub mod FewestChanges
pub mod NamedSymbols
pub mod Details
pub mod MessageLines
