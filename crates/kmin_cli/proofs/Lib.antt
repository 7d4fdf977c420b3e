pub mod ExplainRefusals
pub mod CommandWords
pub mod TidyRefusals
pub mod WordOrders
