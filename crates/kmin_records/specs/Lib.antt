pub mod JsonValues
pub mod Records
pub mod between
