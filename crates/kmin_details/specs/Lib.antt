pub mod NearNames
pub mod Texts
pub mod LineTexts
pub mod OneLines
pub mod ReportMessages
pub mod between
