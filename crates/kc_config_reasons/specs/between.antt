pub mod FileLines
pub mod Places
