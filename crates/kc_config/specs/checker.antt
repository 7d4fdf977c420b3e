pub mod Configs
pub mod MissedMembers
