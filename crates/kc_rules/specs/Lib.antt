pub mod SettleFaults
pub mod between
pub mod checker
