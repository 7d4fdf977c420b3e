pub mod FaultNames
pub mod MemoryFaults
pub mod Languages
pub mod Token
pub mod QuotedTexts
pub mod TokenGrammar
pub mod checker
