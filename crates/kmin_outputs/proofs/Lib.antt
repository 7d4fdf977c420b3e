pub mod Common
pub mod LoadLines
pub mod ErrorExits
pub mod Sequences
pub mod NamedLines
pub mod JobOutputs
pub mod ReadFailures
