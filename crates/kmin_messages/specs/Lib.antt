pub mod SmallNumbers
pub mod Messages
pub mod ShownTexts
pub mod between
