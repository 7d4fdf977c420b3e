pub mod GivenPlaces
pub mod LocatedNeeds
pub mod Laws
pub mod between
pub mod checker
