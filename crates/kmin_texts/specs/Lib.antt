pub mod NumberedLines
pub mod KnownLines
pub mod LineDetails
pub mod Spellings
pub mod between
