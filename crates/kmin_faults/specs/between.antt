pub mod StoredStatements
pub mod Steps
pub mod StoredDefinitions
