pub mod Common
pub mod NumberedLines
pub mod OwnDetails
pub mod FaultSteps
pub mod NoticeSteps
pub mod Spaced
pub mod CycleDetails
