pub mod Common
pub mod KeptLines
pub mod OwnLines
pub mod FileSteps
pub mod LineReads
pub mod ReasonsHold
pub mod PlaceLaws
