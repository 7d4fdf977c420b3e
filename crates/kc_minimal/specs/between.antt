pub mod DifferenceViews
