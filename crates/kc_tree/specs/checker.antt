pub mod NameTable
pub mod Places
pub mod Tables
pub mod TreeView
pub mod UnitNumbers
pub mod Units
