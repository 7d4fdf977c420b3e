pub mod ConfigReasons
pub mod between
pub mod checker
