pub mod Parts
pub mod ReasonsView
