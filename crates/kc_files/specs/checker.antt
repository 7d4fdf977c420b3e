pub mod PathViews
pub mod EndMatches
pub mod FileViews
pub mod PatternRuns
pub mod ExpandedViews
