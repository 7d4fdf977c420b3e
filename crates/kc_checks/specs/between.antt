pub mod FaultSearch
pub mod Summaries
