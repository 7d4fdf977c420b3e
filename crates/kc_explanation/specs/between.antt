pub mod SpelledTokens
pub mod ReasonPlacesView
