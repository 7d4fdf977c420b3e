pub mod TestScripts
pub mod MemoryDisks
