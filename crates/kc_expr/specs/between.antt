pub mod Arena
pub mod ExprParts
pub mod Names
pub mod Operand
pub mod ParseResults
pub mod ReverseNames
pub mod Visits
