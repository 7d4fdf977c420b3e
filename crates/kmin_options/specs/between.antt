pub mod OptionValues
pub mod Refusals
