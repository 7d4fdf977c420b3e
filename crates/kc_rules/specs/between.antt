pub mod SettledViews
pub mod Meters
