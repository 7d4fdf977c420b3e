pub mod ScriptLemmas
pub mod MemorySteps
