-- The nested tree that the groups of a reading without a fault form.
pub mod OpenBlocks
pub mod Walks
pub mod OneListing
pub mod OpenTrees
pub mod LineFits
pub mod ReadingNests
pub mod FileCoverage
