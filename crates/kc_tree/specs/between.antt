pub mod GatheredAttributes
pub mod GatheredFits
pub mod GatheredView
pub mod GroupedItems
pub mod StoredFits
pub mod StoredView
pub mod Views
