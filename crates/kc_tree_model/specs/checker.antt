pub mod TextsView
pub mod WordLengths
