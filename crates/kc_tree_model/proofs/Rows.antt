-- Worked examples of trees and what is read from them, computed.
pub mod Trees
mod Lines
mod Contents
mod Limits
mod SourcedFiles
mod Tables
mod LinuxTrees
