pub mod Contents
pub mod Disks
pub mod NewFiles
pub mod Failures
pub mod Replacements
pub mod Updates
pub mod SystemDisks
