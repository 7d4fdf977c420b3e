pub mod Titles
pub mod Heads
