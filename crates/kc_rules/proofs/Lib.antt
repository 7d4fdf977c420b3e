pub mod Common
pub mod Orders
pub mod Blanks
pub mod Filters
pub mod UserFits
pub mod LineLists
