pub mod Assembly
pub mod ChoiceDefaults
pub mod ChoiceRows
pub mod Definitions
pub mod Entries
pub mod GatheredItems
pub mod GroupParts
pub mod Rows
