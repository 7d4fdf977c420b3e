pub mod Readings
pub mod InsertedFiles
pub mod Gatherings
pub mod TreeStops
pub mod ExpandedStops
pub mod FileNames
pub mod JobTrees
