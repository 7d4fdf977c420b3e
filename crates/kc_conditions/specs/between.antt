pub mod Firsts
pub mod GroupConditions
pub mod Walks
