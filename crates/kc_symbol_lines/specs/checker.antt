pub mod Blocks
pub mod Contexts
pub mod Definitions
pub mod Lists
pub mod OwnLines
pub mod Reads
pub mod Targets
