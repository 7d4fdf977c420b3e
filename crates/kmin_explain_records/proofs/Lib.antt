pub mod Common
pub mod RecordDepths
pub mod RecordTexts
pub mod AskedTokens
pub mod ListedSymbols
pub mod JoinedMembers
