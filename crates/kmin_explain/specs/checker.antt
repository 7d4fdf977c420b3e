pub mod Marks
pub mod Bounds
pub mod BlamedWalk
