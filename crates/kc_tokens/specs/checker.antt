pub mod QuoteStops
pub mod TokenEnds
