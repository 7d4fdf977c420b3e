-- A tree that is read without a fault is consistent.
pub mod Lists
pub mod OneLine
pub mod TokenBytes
pub mod OwnTexts
pub mod PlainTexts
pub mod KeptProperties
pub mod Places
pub mod Definitions
pub mod Units
pub mod Numbers
pub mod Entries
pub mod TitledLines
pub mod EntryTitles
pub mod NameLimits
pub mod Consistent
