pub mod LinesView
pub mod Indexes
