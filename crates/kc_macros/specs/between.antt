pub mod Variables
pub mod AssignmentViews
pub mod Stops
pub mod SliceTexts
