pub mod between
pub mod checker
pub mod TextViews
pub mod TreeContents
pub mod ExpandedTexts
pub mod PathsOfKeys
