pub mod StateRuns
