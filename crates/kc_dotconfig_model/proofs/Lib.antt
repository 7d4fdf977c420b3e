pub mod Common
pub mod Tables
pub mod ValueLaws
pub mod LineForms
pub mod LineLaws
pub mod UnsetTexts
pub mod MergedUsers
pub mod Escapes
pub mod FittingFiles
pub mod AcceptedFiles
pub mod FirstFaults
pub mod AcceptedLines
pub mod TrimmedLines
pub mod AssigningLines
pub mod Cuts
pub mod FaultsAtCuts
pub mod JudgedFiles
pub mod OtherLines
pub mod LineParts
mod UnsetNames
pub mod ChoiceValues
mod FileRows
mod FaultRows
mod MissedRows
