pub mod Common
pub mod Pushes
pub mod Needs
pub mod OrderedLists
pub mod Chains
pub mod ModulesLemmas
