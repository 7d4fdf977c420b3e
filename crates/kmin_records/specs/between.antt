pub mod RecordTokens
