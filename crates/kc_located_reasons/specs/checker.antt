pub mod ActivePlaces
pub mod PartLists
