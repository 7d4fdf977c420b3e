-- The lines of files that are read are those of the grammar of lines.
pub mod CutLines
pub mod JoinedLines
pub mod HelpTexts
pub mod HelpWords
pub mod LogicalLines
