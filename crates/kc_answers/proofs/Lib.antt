pub mod Common
pub mod TableLemmas
pub mod RecordLemmas
pub mod AnswerFileLemmas
pub mod EntryLemmas
