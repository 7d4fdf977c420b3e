-- The reading of a tree is what the relation of reading has, and its fault is the first in the order of kinds.
pub mod TokenFaults
pub mod FormFaults
pub mod TightTokens
pub mod FormLaws
pub mod DeepForms
pub mod FirstFaults
pub mod LineFaults
pub mod ReadingCompleteness
pub mod ReadingSoundness
pub mod TreesOfRelation
