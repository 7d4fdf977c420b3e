pub mod WrittenTokens
pub mod LineFormViews
