pub mod ExpansionStops
pub mod FilesByPlace
