pub mod Expr
pub mod ExprFaults
pub mod Grammar
pub mod Lookup
pub mod ExpressionNames
pub mod between
pub mod checker
