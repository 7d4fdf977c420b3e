pub mod Common
pub mod LocatedLaws
pub mod PartLemmas
pub mod Searches
