pub mod QuotedTexts
pub mod RunContents
pub mod LineTexts
pub mod LineFronts
pub mod LinesWithoutMacros
