pub mod Causes
pub mod Cycles
pub mod SourcedPaths
pub mod PassedLimits
pub mod FirstPlaces
pub mod between
