pub mod Digits
pub mod Drafts
pub mod Places
pub mod ReadTexts
