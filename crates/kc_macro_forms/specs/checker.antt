pub mod SignificantTokens
