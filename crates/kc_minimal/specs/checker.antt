pub mod Values
pub mod Drafts
pub mod LineGroups
