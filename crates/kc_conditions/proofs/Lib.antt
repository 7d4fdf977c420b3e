pub mod Common
pub mod ConjunctionLemmas
pub mod GroupConditionLemmas
pub mod Growth
pub mod WalkSteps
