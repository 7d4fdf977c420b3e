pub mod Conjunctions
pub mod Conjuncts
