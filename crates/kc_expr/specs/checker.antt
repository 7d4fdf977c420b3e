pub mod ArenaCode
pub mod ArenaView
pub mod Conditions
pub mod ExprCode
pub mod Nodes
pub mod ParserResults
pub mod Store
pub mod ExpressionWalks
