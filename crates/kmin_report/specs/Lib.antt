pub mod StandardError
pub mod FileNames
pub mod Reports
pub mod PlainLines
pub mod between
