pub mod CaseParts
pub mod LackingWalk
pub mod LargestLimits
