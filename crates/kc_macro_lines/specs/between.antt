pub mod LineContents
pub mod CopiedLines
