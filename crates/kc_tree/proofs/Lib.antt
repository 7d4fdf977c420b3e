pub mod Common
pub mod FinishedTables
pub mod GroupedLemmas
pub mod GroupingLaw
pub mod PlacesByKey
pub mod RowViews
pub mod SymbolNames
pub mod UnitLists
