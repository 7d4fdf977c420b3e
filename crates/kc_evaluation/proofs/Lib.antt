pub mod Common
pub mod Evaluations
pub mod Bounds
pub mod HeldNames
pub mod AssignedMembers
