pub mod Accumulation
pub mod UserValueOrder
pub mod GatheredLines
pub mod Groups
