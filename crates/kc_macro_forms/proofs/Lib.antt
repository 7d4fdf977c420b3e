pub mod KeywordLemmas
pub mod SignificantTokenLemmas
