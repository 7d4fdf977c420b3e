pub mod CauseGroups
pub mod UnmetDetails
