pub mod Alternatives
pub mod CommandParts
pub mod Simplicity
pub mod SameWords
pub mod ErrorExits
