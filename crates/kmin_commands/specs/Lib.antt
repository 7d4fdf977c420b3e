pub mod Declarations
pub mod Messages
pub mod OptionWords
pub mod checker
