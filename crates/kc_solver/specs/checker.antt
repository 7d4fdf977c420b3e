pub mod Logs
pub mod PendingPlaces
pub mod PlaceSets
pub mod Plans
pub mod Revision
pub mod Rows
pub mod Elimination
