pub mod between
pub mod Bundles
pub mod BundleOutputs
pub mod PartialOutputs
pub mod States
pub mod TidyRuns
pub mod Saves
pub mod Runs
