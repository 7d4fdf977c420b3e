pub mod Common
pub mod HelpLines
pub mod Lookups
pub mod SourceFaults
pub mod TextsLemmas
pub mod WordLemmas
mod Rows
pub mod NestedTrees
pub mod Consistency
pub mod LineLaws
pub mod AbsentFiles
pub mod StrictTrees
pub mod MoreFiles
pub mod ReadingLaws
