pub mod AcceptedTrees
pub mod LinedTrees
pub mod Stops
pub mod MissingFiles
pub mod KnownTrees
pub mod between
