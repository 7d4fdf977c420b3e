pub mod Common
pub mod Bytes
pub mod LineReads
pub mod KeptUnits
pub mod MemberUsers
pub mod KeptLines
pub mod LeastFile
pub mod LineUnits
pub mod MinimalLineList
pub mod Canonical
pub mod NeededUnits
pub mod DifferenceLaws
pub mod FileAcceptance
pub mod FittingLines
pub mod MinimalFileLimits
pub mod OwnValues
pub mod HeadingLines
pub mod OwnLines
pub mod EntryTexts
pub mod FullLines
pub mod FullFileLemmas
pub mod FilesAssign
pub mod DifferingSymbols
pub mod LineNumbers
pub mod MinimalTexts
pub mod Headlines
mod Witness
mod MinimalRows
mod FullRows
mod DifferenceRows
