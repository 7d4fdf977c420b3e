pub mod LineSteps
pub mod PlaceSteps
