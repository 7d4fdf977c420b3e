pub mod MessageViews
pub mod Pieces
