pub mod ReasonWords
pub mod SymbolRecords
pub mod ListedMissed
pub mod RecordLaws
