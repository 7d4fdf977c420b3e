pub mod Common
pub mod UserValueUnits
pub mod ConfigSolutions
pub mod MissedMembers
pub mod MergedValues
